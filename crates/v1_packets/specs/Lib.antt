-- What the passes of a packet do to its frame between two blocks. Packets says which frame a packed frame stands for there, and
-- which metadata kept numbers are; Kept what a list keeps of it.
pub mod Packets
pub mod Kept
pub mod internal
