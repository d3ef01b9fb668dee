-- Read Seen first: which table one of code is. Then Tables: which ready table a table is, by what its parts are found by; it is the
-- one of v1_ready_statements.
pub mod Seen
pub mod Tables
pub mod internal
