-- What the contracts of crash say, and the laws behind them.
pub mod Cover
pub mod Memories
pub mod Keeping
pub mod Whole
