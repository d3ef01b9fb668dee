-- What is written is said by `written` of p416_syntax and `full_syntax` of p416_parentheses. Tokens has a short word that the
-- clauses share.
pub mod Tokens
