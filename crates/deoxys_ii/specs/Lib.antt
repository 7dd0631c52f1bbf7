pub mod DeoxysII
