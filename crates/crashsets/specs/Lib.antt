-- Document 02, Point 8 as definitions and cases; what the contracts of crashsets say beyond them. The laws that rest on the definitions stand in proofs/.
pub mod CrashSets
pub mod Cases
pub mod Machines
pub mod Facts
pub mod Words
pub mod Digits
pub mod First
