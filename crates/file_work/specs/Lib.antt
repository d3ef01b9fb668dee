-- What the work of a command on its files is, for all commands. Read in this order.
--
--   Stops      the status and the line of what stops it
--   Works      what is due, what it leaves in the files, and what a fault is blamed on
--   Clauses    what a call says of its status, its line and its files
--   Phases     what the parts of the work say of their ends
pub mod Clauses
pub mod Phases
pub mod Stops
pub mod Works
