-- Read Rows first: which rows a program has. Then Running: how rows are run, where ready_parse says what the whole does.
-- Then Meaning: that this is what the program does.
pub mod Rows
pub mod Running
pub mod Meaning
