-- What the contracts of private functions cite.
pub mod Counted
pub mod Known
