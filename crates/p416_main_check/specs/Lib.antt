-- The contract is the definition of `p416_syntax`.
pub mod internal
