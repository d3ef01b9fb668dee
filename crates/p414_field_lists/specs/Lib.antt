-- Read Rows first: the rows of a program's field lists, and their bits in a state. Then Meaning: that these are the bits of
-- the lists.
pub mod Rows
pub mod Meaning
pub mod internal
