-- The proofs of what document 02 claims of its changes.
pub mod ZeroBuddyProof
pub mod LettersProof
pub mod TakingBackProof
