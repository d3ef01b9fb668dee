-- What only private functions and proofs name: nothing here needs to be believed.
pub mod Beginning
pub mod Runner
