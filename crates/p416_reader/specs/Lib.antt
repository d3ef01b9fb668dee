-- Read Reading: which text reads as which syntax, and with which fault a text is refused. It stands on `Reads` and
-- `IsRefused` of text_reading, on the division into tokens of p416_tok, on Seen, which tells two `>` and the `<` of a
-- `lookahead` apart, and on what a syntax is spelled with, of p416_syntax.
--
-- `internal` has what only private functions and proofs name: the rows of the grammar, what each action builds, and the
-- machine that reads by them.
pub mod Reading
pub mod Seen
pub mod internal
