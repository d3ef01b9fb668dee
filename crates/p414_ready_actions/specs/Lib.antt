-- Read Meaning first: what it is for rows to be an action. Then Running: what rows do. Then Rows and Words: the rows of an
-- action.
pub mod Rows
pub mod Words
pub mod Running
pub mod Meaning
pub mod internal
