-- Read Graphs first: what a state extracts and leads to, and idle cycles. Then Programs.
pub mod Graphs
pub mod Programs
pub mod internal
