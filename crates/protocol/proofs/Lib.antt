-- Demand 3 and its proof, the proved cases, and what document 02 claims of its changes.
pub mod Cases
pub mod Recovery
pub mod Changes
