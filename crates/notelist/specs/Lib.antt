-- What the contracts of notelist say.
pub mod Notes
pub mod Same
pub mod Fits
