pub mod Linear
pub mod Mixing
pub mod Rounds
