pub mod Least
pub mod Whole
