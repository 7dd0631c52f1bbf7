pub mod Xor
pub mod Tables
pub mod Parts
pub mod Sameness
