-- What the contracts of private functions cite.
pub mod Defaults
pub mod Acting
pub mod Applying
