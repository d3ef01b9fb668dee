-- Read Expressions first: where parentheses stand around an expression that is written. Then Syntax: the same of a whole
-- syntax.
pub mod Expressions
pub mod Syntax
