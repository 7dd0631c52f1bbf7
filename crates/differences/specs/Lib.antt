pub mod Pattern
pub mod Tally
pub mod Words
