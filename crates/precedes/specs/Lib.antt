-- Document 02, Point 12 as definitions and cases; what contracts say beyond them. The laws that rest on the definitions stand in proofs/.
pub mod Precedes
pub mod Rows
pub mod Chains
pub mod Visits
pub mod Links
pub mod Reading
pub mod Cases
