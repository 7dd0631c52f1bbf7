pub mod Statements
pub mod Refusals
pub mod MadeOfRows
pub mod ByPieces
pub mod Records
