-- The definitions of ready tests are those of v1_ready_statements.
-- The definitions of arguments are those of v1_ready_statements. Items says which of them ask for tables alone, and Seen which
-- arguments stand at a place.
pub mod internal
pub mod Items
pub mod Seen
