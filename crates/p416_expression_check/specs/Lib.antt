-- Read Judged first: which rule an expression breaks.
pub mod Judged
pub mod Stands
pub mod internal
