-- How frames are kept.
pub mod Parts
