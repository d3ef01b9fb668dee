pub mod Assigning
mod Calling
