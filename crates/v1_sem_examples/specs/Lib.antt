-- Parts: short names for the parts of a program. Samples: the program of the examples, of which each changes a part.
-- Packets: what a program does with one packet, as a function that computes.
pub mod Parts
pub mod Samples
pub mod Packets
