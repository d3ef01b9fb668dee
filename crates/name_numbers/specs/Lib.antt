-- Read Names first.
pub mod Names
pub mod internal
