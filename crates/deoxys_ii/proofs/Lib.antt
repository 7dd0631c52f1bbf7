pub mod Keystream
pub mod Counts
pub mod Outcomes
pub mod Values
