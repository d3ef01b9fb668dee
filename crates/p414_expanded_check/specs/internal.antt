-- What the contracts of private functions cite.
pub mod Passing
pub mod Flow
