pub mod Delivering
pub mod Lined
pub mod Packets
pub mod Pieces
pub mod Sending
pub mod Streams
pub mod StreamRuns
pub mod Whole
