-- Read Counting first: which counters an action counts outside their table.
pub mod Counting
pub mod internal
