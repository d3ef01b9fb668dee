-- Read Expansion first: what a program comes to, as a function. Then Laws: that it is what an accepted program comes to, and
-- nothing else is.
pub mod Expansion
pub mod Laws
