-- What the contracts of sitting say.
pub mod Turns
