pub mod Frames
pub mod Starts
pub mod Same
pub mod Reading
pub mod Writing
pub mod Owned
pub mod Kept
pub mod Whole
pub mod Named
pub mod Making
pub mod Laws
pub mod Blank
mod Cutting
mod Keeping
mod Elements
mod Looking
