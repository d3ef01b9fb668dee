-- Read Blocks first: which block a ready block is. Then Tasks: what is left to be done comes to. Then Steps: what a step comes to.
pub mod Blocks
pub mod Tasks
pub mod Steps
