-- Spares: the variables of primitives. Has: what is asked of rows. Terms: sums and differences, where a literal has a sign. Rows: what is written for a row. Kept: which
-- rows are kept of primitives.
pub mod Spares
pub mod Has
pub mod Terms
pub mod Rows
pub mod Kept
