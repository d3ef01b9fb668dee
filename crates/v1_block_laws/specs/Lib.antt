-- Read Variables first: which variables a block has, with their numbers, and where its names have their seats. Standing says of
-- which kinds variables are, Apart that those in scope together have places of their own, Keeping that what is evaluated keeps the rules on types and sizes, and Laws has the laws.
pub mod Variables
pub mod Standing
pub mod Apart
pub mod Keeping
pub mod Laws
