-- Read Prepared: what is owed of the ready blocks of a program. Running is what contracts see of what runs them. `internal` has what
-- only private functions and proofs name.
pub mod Prepared
pub mod Running
pub mod internal
