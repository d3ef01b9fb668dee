-- Read Ready first: what is owed of the blocks of a program that are made ready. Parsers says which ready parser a parser is; which ready
-- block a control is, is said in v1_ready_statements (`ready_control`).
pub mod Parsers
pub mod Ready
pub mod internal
