-- What the contracts of private functions cite.
pub mod Empty
pub mod Known
pub mod Places
pub mod Steps
