-- What private functions name.
pub mod Nodes
