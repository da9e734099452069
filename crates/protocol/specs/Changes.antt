-- What document 02 claims of its changes: of a changed rule against the former one, of a frame against none.
pub mod ZeroBuddy
pub mod Letters
pub mod TakingBack
