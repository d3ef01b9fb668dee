-- Where names stand in a frame (Named), what leads from there to a part of it (Ways), where that stands (Spots), and which
-- ready expression an expression is (Expressions).
pub mod Named
pub mod Ways
pub mod Spots
pub mod Expressions
