-- Read Seen first: what places and callees of code are among those of the rules.
pub mod Seen
