-- Read in this order.
--
--   Programs   what the file of a program comes to: a program that breaks no rule, or why there is none
--   Answers    what the reading of it answers
--   Lines      what the commands print of a program
--   Commands   what is due for what the file holds, for each command
--
-- `internal` has what only private functions and proofs name.
pub mod Answers
pub mod Commands
pub mod Lines
pub mod Programs
pub mod internal
