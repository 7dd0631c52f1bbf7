pub mod Rounds
pub mod Values
