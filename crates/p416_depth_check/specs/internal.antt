-- What private functions and proofs name.
pub mod Walks
pub mod Deep
