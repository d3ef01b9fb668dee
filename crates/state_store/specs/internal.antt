pub mod Clearing
pub mod Marks
