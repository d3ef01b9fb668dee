-- Read Kinds first: that a kind tells of which form a value is. Classes says what a value of a kind is, and Laws has the laws.
pub mod Kinds
pub mod Classes
pub mod Laws
