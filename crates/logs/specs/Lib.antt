-- What the contracts of logs say.
pub mod Log
pub mod Turned
pub mod Sorting
-- Laws that their proofs and callers cite.
pub mod CleanUp
pub mod Fits
pub mod Read
pub mod Change
