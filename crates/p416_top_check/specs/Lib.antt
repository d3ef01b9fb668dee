-- The contracts are the definitions of `p416_syntax`.
pub mod internal
