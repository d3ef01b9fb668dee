-- What private functions name.
pub mod Listed
