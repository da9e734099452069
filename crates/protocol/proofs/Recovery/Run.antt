-- The crash-free run: folds, what is sent, one injection more or less, one work more.
pub mod Fold
pub mod Nested
pub mod Facts
pub mod Send
pub mod Work
pub mod Order
pub mod Laws
pub mod Less
pub mod Grown
