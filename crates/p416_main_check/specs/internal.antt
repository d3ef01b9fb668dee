-- What private functions name.
pub mod Places
pub mod Seen
