pub mod Transitions
pub mod States
pub mod Parsers
pub mod Parts
pub mod Emptied
pub mod Begins
