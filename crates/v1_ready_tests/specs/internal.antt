-- What private functions and proofs name.
pub mod Passes
pub mod Coded
