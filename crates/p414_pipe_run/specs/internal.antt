-- What the contracts of private functions cite.
pub mod Ready
pub mod Ending
pub mod Kept
