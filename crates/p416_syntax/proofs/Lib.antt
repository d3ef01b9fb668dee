pub mod AllMarks
pub mod NodeTrees
pub mod Grouping
