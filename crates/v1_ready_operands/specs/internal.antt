-- What private functions and proofs name.
pub mod SourcePasses
pub mod Coded
pub mod Passes
