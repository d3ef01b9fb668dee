pub mod Marks
pub mod Asking
pub mod Early
pub mod Named
