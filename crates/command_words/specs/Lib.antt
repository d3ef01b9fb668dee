-- Read Words: which words are a form of which command, and the files that each command reads and writes. Apart says
-- which names may stand together, and Views how contracts see the commands of the code.
-- `internal` has what only private functions and proofs name.
pub mod Apart
pub mod internal
pub mod Views
pub mod Words
