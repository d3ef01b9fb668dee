-- Read Words first: the words of a text, and what it is to be divided into them. Spelling: what a language owes, so that its
-- words can be put on a sheet. Blanks: what stands between two words.
--
-- Ready serves proofs alone: a text that goes on to be divided in the same way, whatever is put behind it.
pub mod Words
pub mod Spelling
pub mod Blanks
pub mod Ready
