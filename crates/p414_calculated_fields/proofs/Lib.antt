pub mod Gathering
pub mod Meaning
pub mod Turns
