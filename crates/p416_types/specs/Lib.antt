-- Read Answers first: what a check of a program answers.
pub mod Answers
pub mod internal
