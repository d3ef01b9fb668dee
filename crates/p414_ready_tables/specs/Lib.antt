-- Read Loaded first: a program with what fills its tables. Then Tables: what is kept of a table. Then Applied: what an application of a
-- table comes to. Then internal: how tables are made, and applied by numbers.
pub mod Loaded
pub mod Tables
pub mod Applied
pub mod internal
