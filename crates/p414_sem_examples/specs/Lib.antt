-- Parts: short names for the parts of a program. Programs: the programs of the examples, and Routing: a router. Packets:
-- one pass of a packet, as a function that computes.
pub mod Parts
pub mod Programs
pub mod Packets
pub mod Routing
