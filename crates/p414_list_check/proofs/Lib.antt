mod Answering
mod Counting
pub mod Deciding
pub mod Expanding
pub mod Holding
pub mod ListNames
pub mod Loops
pub mod Sized
