pub mod Expressions
pub mod Kept
pub mod Same
pub mod Spelt
pub mod Spells
