-- What private functions name.
pub mod Declared
