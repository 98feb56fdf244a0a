pub mod Lexes
pub mod PieceEnds
pub mod inner
