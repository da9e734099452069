-- What the contracts of the engine say, and the laws that its callers cite.
pub mod Play
pub mod Dispatch
pub mod Stepped
