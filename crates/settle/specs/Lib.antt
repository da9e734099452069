-- The end of catching up, and what a chare shows.
pub mod Done
pub mod Sweep
pub mod Targets
pub mod Settled
pub mod Shown
