-- Which ready parser a parser is.
pub mod Parsers
pub mod Places
