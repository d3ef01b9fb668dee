pub mod Runs
pub mod Marks
pub mod Numerals
pub mod Again
pub mod Keywords
