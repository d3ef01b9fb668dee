-- Read Seen first: what a kind of code is among those of the rules.
-- Read Seen first: what a sort of code is among those of the rules.
pub mod SeenKinds
pub mod internal
pub mod Seen
