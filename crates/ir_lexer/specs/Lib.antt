pub mod Lexeme
pub mod Pieces
pub mod Texts
pub mod Tokens
