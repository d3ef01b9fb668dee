-- Read Seen first: what code has in place of what an l-value means, which v1_place_laws says.
pub mod Seen
pub mod internal
