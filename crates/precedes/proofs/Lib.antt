-- The laws behind Point 12 that rest on its definitions, and the proved cases.
pub mod Rows
pub mod Chains
pub mod Admitted
pub mod Reading
pub mod Answers
pub mod Steps
pub mod Facts
pub mod Cases
