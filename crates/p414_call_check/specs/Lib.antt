-- Read Shown first: how what is wanted, arguments with their places, and calls, are seen.
pub mod Shown
pub mod internal
