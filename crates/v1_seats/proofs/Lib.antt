mod First
mod Naming
mod Reaching
mod Stepping
mod Turns
pub mod Seating
