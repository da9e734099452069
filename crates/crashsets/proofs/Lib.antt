-- The laws behind Point 8 that rest on its definitions, and the proved cases.
pub mod Facts
pub mod Tallies
pub mod Together
pub mod Digits
pub mod Cases
