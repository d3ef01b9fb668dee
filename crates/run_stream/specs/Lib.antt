-- What the clause of `run_capture` says. Read in this order:
--
--   Runs      what comes of one arrival, and of a list of arrivals one after another
--   Reports   the lines of the report
--   Captured  what a capture comes to: the sent file, the report, and how the run ends
--
-- `internal` has what only private functions and proofs name.
pub mod Captured
pub mod internal
pub mod Reports
pub mod Runs
