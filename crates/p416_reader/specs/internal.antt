-- What only private functions and proofs name: nothing here needs to be believed.
pub mod Actions
pub mod Bodies
pub mod Built
pub mod Classes
pub mod Coded
pub mod Forest
pub mod Lexemes
pub mod Machine
pub mod Rows
pub mod Words
