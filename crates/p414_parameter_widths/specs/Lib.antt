-- Read Widths first: what the widths of all actions' parameters are.
pub mod Widths
pub mod internal
