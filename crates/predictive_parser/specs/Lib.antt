-- Read Answers first: what a parser answers, and which token is the first that can't stand where it stands. Then Grammar: the
-- rows of a grammar, and what is read by them, on the steps of Machine. Told: how code tells the rows. Choices: which of them
-- is taken. Values: the stacks of what is built. Operators: those of expressions, by how tightly they bind.
--
-- Which lists of tokens a grammar reads is told by the lemmas of `proofs/Languages.antt`.
--
-- `internal` has what only private functions and proofs name.
pub mod Answers
pub mod Grammar
pub mod Machine
pub mod Told
pub mod Choices
pub mod Values
pub mod Operators
pub mod internal
