mod Answering
mod Declared
pub mod Deepening
pub mod Expanding
pub mod Holding
pub mod Loops
mod Sized
mod Turning
