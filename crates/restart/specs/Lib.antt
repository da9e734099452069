-- What a restart gives back and sends again, and the laws behind it.
pub mod Limited
pub mod Gather
pub mod Ranges
pub mod Fills
pub mod Tables
pub mod Words
pub mod Stored
pub mod OnMachine
pub mod Sources
pub mod Built
pub mod Resends
pub mod Sent
pub mod Restored
pub mod Homes
pub mod Judged
pub mod Whole
