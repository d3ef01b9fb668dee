-- What only private functions and proofs name.
pub mod Judged
