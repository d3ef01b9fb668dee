-- What private functions and proofs name.
pub mod Looked
