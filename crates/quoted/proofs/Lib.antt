pub mod Spellings
pub mod Printable
pub mod ReadBack
