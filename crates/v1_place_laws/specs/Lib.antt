-- Read Places first: where an l-value stands in a frame, and which slot or which parts that are. Finding says what finding an
-- l-value gives, and Laws has the laws.
pub mod Places
pub mod Finding
pub mod Laws
