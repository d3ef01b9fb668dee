-- What the statements of a P4_16 block do, where names are numbers. Read Moments first:
--     Moments     what statements work on
--     Places      where they read and write, and what that does to a frame
--     Stacks      elements of a stack that move
--     Tests       expressions that may apply tables
--     Packets     headers that are extracted and emitted
--     Externs     what each extern does
--     Arguments   what an extern is called with, and the parameters of an action, copied in and out
--     Tables      keys, the entry that is hit, and the action that runs
--     Statements  statements, and the count of work
--     Blocks      the actions and the tables of a block, and the whole block
--     Nodes       the nodes that statements are kept in
--     Kept        statements that are kept
pub mod Moments
pub mod Places
pub mod Stacks
pub mod Tests
pub mod Packets
pub mod Externs
pub mod Arguments
pub mod Tables
pub mod Statements
pub mod Blocks
pub mod Nodes
pub mod Kept
