-- What the contracts of withdraw say, and the laws behind them.
pub mod Judged
pub mod Withdrawn
