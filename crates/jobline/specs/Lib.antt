-- What the contracts of jobline say, and the laws behind them.
pub mod Spans
pub mod Numbers
pub mod Passes
pub mod JobLaws
