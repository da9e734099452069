-- What the contracts of head say, and the laws behind them.
pub mod Head
pub mod Cells
pub mod HeadLaws
pub mod Kept
pub mod Sets
