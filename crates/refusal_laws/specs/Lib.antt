-- Read Wrong: a program of P4_14, and programs of P4_16 that are each wrong in one place.
pub mod Wrong
