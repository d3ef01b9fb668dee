mod Idle
pub mod Walked
