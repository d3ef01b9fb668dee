-- The definitions of ready sources and calls are those of v1_ready_statements. SeenStatements says which statement is put at a place;
-- Functions and Objects which of calls ask for tables and slots alone; Callees what calls in a block name, and Seen which parts of a
-- call of an action stand at a place.
pub mod internal
pub mod SeenStatements
pub mod Functions
pub mod Objects
pub mod Callees
pub mod Seen
