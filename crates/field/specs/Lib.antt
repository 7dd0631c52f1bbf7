pub mod Field
pub mod Substitution
pub mod Tables
