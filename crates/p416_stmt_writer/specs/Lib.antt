-- Layouts has the table of what each statement is written with, part by part. It serves proofs alone: what is written is said by
-- `written_stmt` of p416_syntax and `full_stmt` of p416_parentheses.
pub mod Layouts
