-- What the contracts of checkpoint say, and the laws behind them.
pub mod Parts
pub mod Fixing
pub mod Limits
pub mod Cleaning
