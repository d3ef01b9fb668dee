-- New names: Tags, Things, Sorts, OneSort, Lists, Proved. Declarations: Instances, Types, Objects, Marks, Marked, Declared, Top. Copies of actions:
-- Copies, Listed. Sample meets what is asked of types.
pub mod Tags
pub mod Things
pub mod Sorts
pub mod Lists
pub mod OneSort
pub mod Proved
pub mod Instances
pub mod Marks
pub mod Objects
pub mod Types
pub mod Declared
pub mod Copies
pub mod Top
pub mod Marked
pub mod Listed
pub mod Sample
