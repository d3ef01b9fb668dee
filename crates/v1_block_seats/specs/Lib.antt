-- Read Seen first: which variable one of code is. Numbers has the numbers of the actions of a control. Which variables and names
-- a block has is said in v1_block_laws.
pub mod Seen
pub mod Numbers
pub mod internal
