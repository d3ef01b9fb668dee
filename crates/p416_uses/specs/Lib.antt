-- What private functions and proofs name; what is judged is told by the definitions of the rules, and what is found of it by
-- Found of p416_expression_uses.
pub mod Parts
pub mod Variables
