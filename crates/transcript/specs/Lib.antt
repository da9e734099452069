-- What the contracts of the transcript say, and the laws that its proofs cite.
pub mod Reading
pub mod Demand
pub mod Pieces
pub mod Chunks
pub mod LineWise
pub mod Printed
pub mod Feeding
pub mod View
pub mod Ends
pub mod Room
