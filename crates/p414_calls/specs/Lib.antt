-- Read Shown first: how what the arguments stand for is seen.
pub mod Shown
pub mod internal
