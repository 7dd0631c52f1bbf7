pub mod Parts
pub mod Spelling
