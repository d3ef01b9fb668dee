pub mod Loops
pub mod Placing
pub mod Programs
pub mod Widths
