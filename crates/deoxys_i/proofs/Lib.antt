pub mod Checksums
pub mod Message
pub mod Counts
pub mod Outcomes
pub mod Values
