pub mod Numbered
mod Needing
pub mod Turning
pub mod Kept
