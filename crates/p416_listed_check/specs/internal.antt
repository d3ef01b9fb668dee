-- What private functions name.
pub mod Labels
pub mod Mixed
