pub mod Tables
pub mod Labelled
pub mod RowsLabelled
