-- A job's line as a store, and the store before any job.
pub mod Words
pub mod HeadSays
pub mod States
pub mod Zeros
pub mod Begun
