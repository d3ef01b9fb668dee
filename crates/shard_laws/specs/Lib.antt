-- Read Programs: which programs have counters alone. Then Laws. Likeness: what the proofs of the laws compare.
pub mod Programs
pub mod Laws
pub mod Likeness
