-- Read Shown first: how the uses that are collected are seen.
pub mod Shown
pub mod internal
