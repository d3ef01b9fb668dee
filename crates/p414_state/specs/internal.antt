-- What the contracts of private functions cite.
pub mod Cells
pub mod Parts
