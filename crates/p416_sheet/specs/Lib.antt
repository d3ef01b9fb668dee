-- Tokens: what is put on a sheet at once, and its words.
pub mod Tokens
