-- Read Rows first: what is kept of a condition. Then Running: what rows do with a stack of numbers. Then Meaning: that they
-- tell whether the condition holds.
pub mod Rows
pub mod Running
pub mod Meaning
pub mod internal
