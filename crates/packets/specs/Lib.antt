-- What the contracts of packets say, and the laws behind them.
pub mod Words
pub mod View
pub mod Packing
pub mod Names
pub mod Fits
