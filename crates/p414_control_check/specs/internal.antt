pub mod Expanded
pub mod Depths
