pub mod Defaults
pub mod Finding
pub mod Lowest
pub mod Running
