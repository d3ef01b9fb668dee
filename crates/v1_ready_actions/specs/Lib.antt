-- The definitions of calls are those of v1_ready_statements.
pub mod internal
