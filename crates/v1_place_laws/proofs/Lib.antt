pub mod Parts
pub mod Elements
pub mod Naming
pub mod Finding
pub mod Writing
pub mod Marking
