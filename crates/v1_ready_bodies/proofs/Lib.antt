pub mod Keeping
pub mod Fronts
pub mod Grown
pub mod Steps
mod Turning
