-- Read Limit first: how far is counted. What is counted are the definitions of `p416_syntax`.
pub mod Limit
pub mod internal
