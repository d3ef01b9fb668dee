-- What the contracts of private functions cite.
pub mod Expanding
pub mod Runs
