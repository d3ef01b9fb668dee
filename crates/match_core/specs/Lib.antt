-- What tables, entries and their look-ups mean. Read Signatures first, then Fits, then Matching and Best.
--     Signatures      which signatures are well formed
--     Fits            which entries fit a signature
--     Matching        when an entry matches a key, and which of two entries counts first
--     Best            the best entry of a key
--     Tables          the tables of a signature, filled with entries, and what a table is built of
--     Stores          the stores of a signature and entries, and the one that a run begins with
--     Identity        what tells the entries of a table apart
-- No contract of a public call names what stands in internal: how a table finds its best entry.
pub mod Signatures
pub mod Fits
pub mod Matching
pub mod Best
pub mod Tables
pub mod Stores
pub mod Identity
pub mod internal
