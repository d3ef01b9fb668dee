mod Answering
mod Flowing
mod Judging
mod Loops
mod Meaning
mod Members
pub mod Once
pub mod Order
mod Passes
mod Places
mod Relaxing
