mod Kept
mod Acting
pub mod Declared
mod Applying
