-- Copying: the copies of actions, by the names that came before.
pub mod Copying
