-- What private functions and proofs name.
pub mod Passes
pub mod Ways
pub mod Coded
