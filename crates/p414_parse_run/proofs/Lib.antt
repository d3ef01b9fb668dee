pub mod Accepted
mod Joining
pub mod Meaning
mod Moving
mod Turns
pub mod Widths
