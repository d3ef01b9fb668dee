-- Owned says which variables a control has, Seen which actions those of code are.
pub mod internal
pub mod Seen
pub mod Owned
