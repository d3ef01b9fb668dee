pub mod Spelt
pub mod Fields
pub mod Rules
