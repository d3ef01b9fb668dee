-- What calls ask of the parts of a frame.
-- How what a run keeps is seen as a moment, and what an extern comes to.
-- What steps of statements over a frame, a store and a run come to.
-- What statements without others in them do is said by `done` of v1_ready_blocks.
-- How a parameter is brought in.
pub mod Parts
pub mod Windows
pub mod Seen
pub mod Steps
pub mod Bringing
