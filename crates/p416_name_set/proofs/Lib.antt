mod Sets
pub mod Repeating
