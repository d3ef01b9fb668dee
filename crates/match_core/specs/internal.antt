pub mod Maps
pub mod Order
pub mod Index
pub mod Sizes
pub mod Levels
pub mod Codes
pub mod Groups
