-- The passes of a packet under a P4_16 program. Read in this order:
--
--   Moments   as a block begins, and what it leaves, by the packed frame
--   Tags      preserved and held values with the program that they are of, and the machine over these
--   Held      the numbers of what is held, by the parts of its frame
--   Runs      what stands between two packets of a run, and what one packet more leaves
--
-- `Codes` serves proofs alone; `internal` has what only private functions and proofs name.
pub mod Codes
pub mod Held
pub mod internal
pub mod Moments
pub mod Runs
pub mod Tags
