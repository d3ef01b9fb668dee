-- What private functions name.
-- What private functions and proofs name.
pub mod KindParts
pub mod Tables
