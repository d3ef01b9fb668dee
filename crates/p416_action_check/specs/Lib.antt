-- Read Cycles first: which declarations have an action that calls itself.
pub mod Cycles
pub mod internal
