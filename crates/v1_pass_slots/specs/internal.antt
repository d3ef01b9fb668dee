-- What private functions and proofs name.
pub mod Structs
pub mod Places
