mod Cutting
mod Keys
pub mod Matching
mod Places
