pub mod Lines
pub mod Piece
