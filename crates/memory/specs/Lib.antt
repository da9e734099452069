-- A chare's memory as words.
pub mod Places
pub mod View
pub mod Blank
pub mod Numbers
