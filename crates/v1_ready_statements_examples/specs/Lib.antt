-- When a ready control does what the control does.
pub mod Alike
