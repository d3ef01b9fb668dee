pub mod Division
pub mod Registers
pub mod Words
pub mod Ends
