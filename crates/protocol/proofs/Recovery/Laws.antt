-- Laws on lists of messages, tables and logs: places, marks, new tickets, lookups, restored tables.
pub mod Options
pub mod Status
pub mod Changes
pub mod Look
pub mod Marks
pub mod NewTicket
pub mod Holes
pub mod Lookups
pub mod Restored
pub mod Filled
pub mod Resends
pub mod Places
pub mod AtHome
pub mod Pruned
