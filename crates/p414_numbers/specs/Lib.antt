-- Read Sorts first: the names of a program, sort by sort, and the number of a name.
pub mod Sorts
pub mod internal
