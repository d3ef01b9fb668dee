pub mod Expanded
pub mod Measures
pub mod Judged
