-- Read Seen first: which seat a seat of code is. Frame says where the values of a frame stand, and Extents how far values
-- reach. The definitions of seats are those of v1_core.
pub mod Seen
pub mod Frame
pub mod Extents
pub mod internal
