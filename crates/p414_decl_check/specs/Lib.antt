-- Read Answers first: what a check of declarations answers.
pub mod Answers
pub mod internal
