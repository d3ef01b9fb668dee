-- What the contracts of private functions cite.
pub mod Placing
pub mod Types
pub mod Written
