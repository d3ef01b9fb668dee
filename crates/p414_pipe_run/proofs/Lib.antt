pub mod Corresponding
pub mod Parsing
pub mod Steps
pub mod Ending
pub mod Passing
pub mod Running
