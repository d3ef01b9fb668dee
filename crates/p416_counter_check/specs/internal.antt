-- What private functions name.
pub mod Pairs
