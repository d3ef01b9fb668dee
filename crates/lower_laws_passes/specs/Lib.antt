-- Of the passes of a packet through all blocks. All that is defined here is this project's own; each file names the
-- sections of both standards that it is about. Preserving says what is preserved in both, Held how packets stand
-- between passes, Types what is asked of the types that were written; Laws is what is proved.
pub mod Preserving
pub mod Held
pub mod Types
pub mod Laws
