-- What the contracts of private functions cite.
pub mod Work
pub mod Widths
