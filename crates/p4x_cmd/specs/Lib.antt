-- What the clauses of `p4x` say. Read in this order.
--
-- What a call comes to (`run14_cmd` and `run16_cmd` say it of the commands `run14` and `run16`, `command_words` says which words
-- are which command, `file_work` what a call says of any command, `program_commands` what the file of a program comes to, and
-- `p414_one_table` which programs are of the one-table form):
--   Calls      what each clause says: `Carried`, the cause of each status, the line, and what stands in the files
--   Carry      what is due for the files that `carry` reads: what stops it, and the written text with this run's files
--   Runs       the run over the capture (`run_stream` says what its files and its line are, and `command_inputs` what the
--              ports come to)
--
-- What the written text is (`p416_syntax` has the syntax of P4_16; `Reads16` of `p416_reader` says which text reads as which
-- syntax, and `BreaksNone` of `p416_syntax` that it is well-typed):
--   Carries    both programs do the same on all entries, under every bound, for every list of arrivals
--   Passes     what a run over arrivals gives
--   Meaning14  what the P4_14 program does with a packet
--   Meaning16  what the P4_16 program does with a packet
--   FirstCut   the programs on which that is the whole meaning
--   Entries    what stands in the tables
--   Headers    the bits of a header's fields
--
-- `internal` has what only private functions and proofs name.
pub mod Calls
pub mod Carries
pub mod Carry
pub mod Entries
pub mod FirstCut
pub mod Headers
pub mod internal
pub mod Meaning14
pub mod Meaning16
pub mod Passes
pub mod Runs
