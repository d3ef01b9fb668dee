-- Read Held first: what is made ready so far, and what stays of it whatever is put behind it.
pub mod Held
