pub mod Authenticating
pub mod Chunks
pub mod Counts
pub mod Values
