pub mod Names
pub mod Written
pub mod Extracted
pub mod Selected
pub mod Applied
