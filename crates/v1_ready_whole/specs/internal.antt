-- What private functions name.
pub mod Counted
pub mod Named
pub mod Standing
