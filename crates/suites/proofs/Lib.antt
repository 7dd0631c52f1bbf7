pub mod Numbers
pub mod Refusals
pub mod Values
