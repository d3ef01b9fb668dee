-- What private functions and proofs name.
pub mod Sized
pub mod Written
