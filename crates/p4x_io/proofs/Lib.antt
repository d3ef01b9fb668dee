pub mod Untold
pub mod Desks
pub mod Reading
pub mod Slots
