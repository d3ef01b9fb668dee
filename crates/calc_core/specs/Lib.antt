-- Read Calculations: the algorithms of a field list calculation, on lists of bits.
--   Calculations  csum16, crc16, crc32 and identity
--   internal      what only private functions and proofs name: the tables of the CRCs
pub mod Calculations
pub mod internal
