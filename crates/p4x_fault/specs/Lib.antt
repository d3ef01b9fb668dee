-- Read Fault: the line that tells of a refusal.
--   Fault     rules by their names, the place that is told, and the line
--   internal  what only private functions and proofs name
pub mod Fault
pub mod internal
