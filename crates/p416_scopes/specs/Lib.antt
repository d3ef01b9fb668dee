-- Read Seen first: what a scope of code is among those of the rules.
pub mod Seen
