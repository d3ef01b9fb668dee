-- What private functions name.
pub mod Zipped
