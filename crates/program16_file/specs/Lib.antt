-- Read in this order.
--
--   Programs   what the file of a P4_16 program comes to: a program that breaks no rule, or why there is none
--   Answers    what the reading of it answers
--   Causes     what it is the cause of
--
-- `internal` has what only private functions and proofs name.
pub mod Answers
pub mod Causes
pub mod Programs
pub mod internal
