-- What the contracts of frame 11 say, and the laws behind them.
pub mod Effect
pub mod NoteEffect
pub mod Arrival
pub mod View
pub mod Fits
pub mod Frame
pub mod Judged
pub mod InPlace
pub mod Whole
