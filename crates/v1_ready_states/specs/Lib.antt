-- Read States first: what states and a parser do, whose names are numbers. Rows says which states those of code are.
pub mod States
pub mod Rows
