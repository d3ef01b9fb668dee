-- How many items the field lists come to.
pub mod Lengths
-- What the contracts of private functions cite.
pub mod internal
