-- What the contracts of frames say, and the laws behind them.
pub mod Range
pub mod Decode
pub mod DecodeLaws
pub mod Read
pub mod PairLaws
pub mod TableLaws
pub mod ReadLaws
pub mod LongLine
