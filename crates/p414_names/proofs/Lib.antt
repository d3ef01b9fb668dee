mod Sets
pub mod Numbers
pub mod Sums
