-- What only private functions and proofs name: nothing here needs to be believed.
pub mod Lowering
pub mod Phases
pub mod Plain
