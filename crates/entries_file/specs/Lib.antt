-- Read Reading first: what a text says, line by line, and which rule its first broken line breaks.
--   Reading    the judgement of a line, and of a text
--   Forms      the four forms of a line
--   Rules      the rules E1 to E12, each a test of the line and of what was read before it
--   Filling    what was read so far, and what a line adds to it
--   KeyForms   how keys are written, and which of them count as the same
--   Numbers    how numbers are written
--   Cuts       words that are cut at a mark
--   internal   what only private functions and proofs name
-- What entries have to be for a signature is said in match_core (Rattle.match_core.specs.Fits), and lines, words and
-- digits in text_lines.
pub mod Cuts
pub mod Numbers
pub mod KeyForms
pub mod Forms
pub mod Filling
pub mod Rules
pub mod Reading
pub mod internal
