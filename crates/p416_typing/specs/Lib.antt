-- Read Rows first: what is known of an expression.
pub mod Rows
pub mod Seen
pub mod internal
