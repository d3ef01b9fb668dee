-- What private functions name.
pub mod Firsts
