-- Copied: the copies of actions are those of the definitions.
pub mod Copied
