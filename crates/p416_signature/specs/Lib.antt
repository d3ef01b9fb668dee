-- What the signature of a program is stands in v1_core.
pub mod internal
