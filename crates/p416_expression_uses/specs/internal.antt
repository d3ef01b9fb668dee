-- What private functions and proofs name.
pub mod Runs
pub mod Plain
