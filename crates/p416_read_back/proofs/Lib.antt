pub mod Told
pub mod Seeing
pub mod Expressions
pub mod Parts
pub mod Back
