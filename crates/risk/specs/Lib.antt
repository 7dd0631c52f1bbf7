pub mod Labels
pub mod Tweaks
pub mod Calls
pub mod Words
