pub mod Spelt
pub mod Mapped
