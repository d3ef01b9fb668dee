-- Read Spelled first: with which octets a token of P4_16 is written on a sheet, and what may touch it. Then Words: the words
-- that the tokens of the grammar are written with.
pub mod Spelled
pub mod Words
