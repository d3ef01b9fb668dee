-- Read Selects first: where a transition leads. Then Rows: which rows the cases of a program are, and Transitions: which
-- transition one of a program is. Matching says that rows lead where the cases do, Seen how code keeps keys.
pub mod Selects
pub mod Rows
pub mod Transitions
pub mod Matching
pub mod Seen
pub mod internal
