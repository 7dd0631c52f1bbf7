pub mod Tweakeys
pub mod Flat
pub mod Values
