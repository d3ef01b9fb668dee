-- Read Programs: which programs are of the form, and the syntax of each; then Lawful: which of them keep the rules of P4_16.
-- That a text reads as a syntax is said by `Reads16` of p416_reader, and which rules one breaks by `BreaksNone` of p416_syntax.
--
-- `internal` has what only private functions and proofs name.
pub mod Programs
pub mod Lawful
pub mod internal
