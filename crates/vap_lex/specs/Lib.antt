pub mod Kept
pub mod Piece
pub mod Tokens
pub mod Refusal
