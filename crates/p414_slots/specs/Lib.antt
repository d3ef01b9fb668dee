-- Read Shown first: what fields by number mean.
pub mod Shown
pub mod internal
