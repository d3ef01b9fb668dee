-- Read Table first: what the table of the new names means. Making: how lists of nodes grow. Has: what is asked of what stands by
-- number. Terms: sums and differences, where a literal has a sign.
pub mod Table
pub mod Making
pub mod Has
