-- What all statements of a block share, whatever they do: how the moments of both languages stand beside each other.
-- All that is defined here is this project's own; each file names the sections of both standards that it is about. Read
-- Context first: what stands around statements, and how moments stand beside each other. Mirror says what is written
-- for parts, fields and sources; Alike when actions do the same. Gives says what an expression gives, Laws what is
-- proved of sources. Between says how moments stand between two blocks; Blocks what each block is asked for; Types how
-- instances are shown, and what the values are that a pass begins with.
pub mod Context
pub mod Mirror
pub mod Alike
pub mod Between
pub mod Blocks
pub mod Types
pub mod Gives
pub mod Laws
