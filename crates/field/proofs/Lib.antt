pub mod Inverses
pub mod Substitution
