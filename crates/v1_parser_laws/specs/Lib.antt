-- Read Leading first: when a ready transition leads where one of the program does. Then Shown: when moments are one; States:
-- when states do the same; Ranges: the parts of a value; and Laws.
pub mod Leading
pub mod Shown
pub mod States
pub mod Ranges
pub mod Laws
