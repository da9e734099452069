-- What the contracts of tickets say.
pub mod Table
-- Laws that their proofs and callers cite.
pub mod EntryLaws
pub mod Fits
pub mod Read
pub mod Change
pub mod Holes
pub mod Enter
