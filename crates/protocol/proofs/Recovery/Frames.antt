-- Each kind of frame keeps the invariant of the state.
pub mod States
pub mod Contents
pub mod Deliver
pub mod Send
pub mod Crash
pub mod Job
pub mod Restart
pub mod Calm
pub mod SendAll
pub mod Settle
pub mod Grow
pub mod Checkpoint
pub mod CrashTold
pub mod Waiting
pub mod Withdraw
