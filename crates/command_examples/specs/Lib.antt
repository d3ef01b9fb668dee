-- Read Plain: what the plain program answers, by the meaning of P4_14 that stands in `p4x_cmd`. `internal` has what only
-- private functions and proofs name.
pub mod Plain
pub mod internal
