-- Read Reading first: which text reads as what, and with which fault a text is refused. Nothing there speaks of a machine.
--
-- `internal` has what only functions that join the two machines and proofs name: the division and the parser.
pub mod Reading
pub mod internal
