-- The whole state as words.
pub mod Places
pub mod View
pub mod ViewLaws
pub mod Visits
pub mod Framing
