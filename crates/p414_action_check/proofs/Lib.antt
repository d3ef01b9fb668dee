pub mod Answering
mod Deciding
pub mod Expanding
pub mod Given
mod Hashing
pub mod Holding
mod Loops
mod Members
pub mod Numbers
mod Sized
