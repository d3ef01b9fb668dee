-- Which ready statement a statement of a block is. Read in this order:
--
--   Targets     what is written to
--   Tested      expressions in which tables may be applied, and choices between headers, stacks or structs
--   Around      what stands around the statements of a block: its actions, tables and objects by their numbers
--   Given       arguments of externs, and parameters of actions
--   Called      calls as statements
--   Statements  statements with all within them
--   Blocks      a block with its variables, actions and tables
pub mod Around
pub mod Blocks
pub mod Called
pub mod Given
pub mod Statements
pub mod Targets
pub mod Tested
