mod Ends
pub mod Twins
mod Numbers
