pub mod Owning
mod Leaving
mod Acting
pub mod Starting
pub mod Joining
