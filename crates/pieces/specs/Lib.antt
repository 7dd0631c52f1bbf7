pub mod ByPieces
pub mod Refusing
