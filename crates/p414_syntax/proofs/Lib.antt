pub mod AllMarks
pub mod Grow
pub mod Spelt
pub mod Blocks
