pub mod Summing
pub mod Edges
pub mod Finding
pub mod Agreeing
pub mod Deepening
pub mod Looking
pub mod Turning
