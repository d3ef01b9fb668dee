-- What the contracts of private functions cite.
pub mod Seen
pub mod Firsts
pub mod Gathered
