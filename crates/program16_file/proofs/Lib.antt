pub mod Files
pub mod Rules
pub mod Stops
pub mod Texts
