-- Read Placed first: an expression as it is written at its place. Then Spelt: which expressions can be written.
--
-- Layouts serves proofs alone: the table of what each expression is written with, part by part.
pub mod Placed
pub mod Spelt
pub mod Layouts
