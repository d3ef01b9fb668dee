-- What private functions name.
pub mod Steps
pub mod Seen
