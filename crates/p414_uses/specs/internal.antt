pub mod Collected
pub mod Parameters
