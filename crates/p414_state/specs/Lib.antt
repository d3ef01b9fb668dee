-- A state of a packet with what its instances are made of (Packets), headers and stacks by themselves (Headers), and how a
-- state is packed (internal).
pub mod Packets
pub mod Headers
pub mod internal
