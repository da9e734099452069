-- What the invariant says: the world, its clauses, and how they carry over.
pub mod World
pub mod Clauses
pub mod Linked
pub mod Silent
pub mod Ticks
pub mod Later
pub mod Good
pub mod Counts
pub mod Senders
pub mod Owing
pub mod Homes
