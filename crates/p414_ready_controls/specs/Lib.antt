-- Read Nodes first: what is kept of a statement. Then internal: how it is made.
pub mod Nodes
pub mod internal
