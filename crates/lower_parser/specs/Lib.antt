-- Read Written first: the parser that is written. Rows is the same for rows, Has what the rows need, Elements which element a row names.
-- Laws says what holds of the parser.
pub mod Rows
pub mod Has
pub mod Elements
pub mod Written
pub mod Laws
