-- Read Rows first: what is kept of calculated fields. Then Running: what rows do with a packet's state. Then Meaning: that this
-- is what the program does.
pub mod Rows
pub mod Running
pub mod Meaning
