pub mod Numbers
pub mod Ranges
pub mod Readings
pub mod OneField
pub mod FieldAt
pub mod Laying
pub mod Accepting
