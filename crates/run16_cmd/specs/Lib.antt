-- What the clauses of the command `run16` say. Read in this order.
--
--   Run16      what is due for the files that it reads: what stops it, and this run's files
--   Calls      what a call says of its statuses, its line and its files
--
-- `command_words` says which words are the command, `program16_file` what the file of a program comes to,
-- `command_inputs` what those of entries and ports do, `run_stream` what the files and the line of a run are, and
-- `cell_lines` the lines of counters and registers. `Run16` of `v1_core` is the run itself.
--
-- `internal` has what only private functions and proofs name.
pub mod Run16
pub mod Calls
pub mod internal
