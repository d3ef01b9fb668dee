-- The externs of `core.p4` and `v1model.p4`, each by the values of its arguments:
--   Packets    `extract` and `emit` (`lookahead` is an expression)
--   Ports      `mark_to_drop`
--   Objects    counters, direct counters, registers and meters
--   Hashes     `hash`, and the algorithms
--   Checksums  what verifies and updates checksums
--   Requests   clones, `resubmit_preserving_field_list` and `recirculate_preserving_field_list`
pub mod Packets
pub mod Ports
pub mod Objects
pub mod Hashes
pub mod Checksums
pub mod Requests
