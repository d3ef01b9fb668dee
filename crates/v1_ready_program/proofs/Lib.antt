mod Naming
mod Spotting
mod Walking
pub mod Asking
pub mod Valuing
pub mod Building
pub mod Turning
