pub mod Classes
pub mod Formed
pub mod Scopes
pub mod Taken
