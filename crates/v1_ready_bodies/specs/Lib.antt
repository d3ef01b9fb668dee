-- The definitions of ready statements are those of v1_ready_statements. Seen says which test and which statement stands at a place,
-- Variables how the variables of a block start, and Fronts joins lists that are made one by one.
pub mod Seen
pub mod Variables
pub mod Fronts
pub mod internal
