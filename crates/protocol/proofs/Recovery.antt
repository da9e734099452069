-- Why demand 3 holds; the theorem stands in Theorem.
pub mod Run
pub mod Laws
pub mod Invariant
pub mod Steps
pub mod Frames
pub mod Conclusion
pub mod Along
pub mod Settled
pub mod LostFlag
pub mod Holes
pub mod Kept
pub mod Numbers
pub mod Theorem
pub mod Witness
