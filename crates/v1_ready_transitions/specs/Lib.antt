-- The definitions of ready transitions are those of v1_ready_selects.
pub mod internal
