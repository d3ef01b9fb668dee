-- Read Newest first.
pub mod Newest
pub mod internal
