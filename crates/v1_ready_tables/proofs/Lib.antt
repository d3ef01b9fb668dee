pub mod Telling
mod Keeping
