pub mod Clearing
pub mod Joined
pub mod Marks
pub mod Stores
pub mod Sums
