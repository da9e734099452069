-- A part of a lent store, rows of equal parts, and counted rows of words.
pub mod Part
pub mod PartSet
pub mod Slots
pub mod Rows
pub mod Becomes
pub mod Mapped
pub mod Fields
pub mod Sift
pub mod Removal
pub mod Seek
pub mod Zeros
