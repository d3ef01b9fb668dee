pub mod Edges
pub mod Idling
pub mod Stating
mod Starts
