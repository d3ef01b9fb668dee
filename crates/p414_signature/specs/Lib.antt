-- What the signature of a program is stands in p414_sem.
pub mod internal
