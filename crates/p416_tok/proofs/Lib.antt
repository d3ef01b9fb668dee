pub mod Heads
pub mod Spelling
pub mod Between
pub mod Broken
pub mod Laws
pub mod Spelt
pub mod Beginnings
