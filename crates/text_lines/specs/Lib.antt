-- Read Words first. A text's lines are those of std (Rattle.std.specs.Str.Lines): a line feed ends a line, a
-- carriage return in front of it is dropped, and the last line ends with the text.
--   Words      the words of a line, and which line is a comment
--   Numbers    the digits of a base, and the number that a word of digits is
--   Places     the fault of a line that breaks a rule
--   internal   what only private functions and proofs name
pub mod Words
pub mod Numbers
pub mod Places
pub mod internal
