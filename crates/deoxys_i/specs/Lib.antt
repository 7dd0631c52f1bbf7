pub mod DeoxysI
pub mod Direction
