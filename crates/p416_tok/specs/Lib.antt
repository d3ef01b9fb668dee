-- Read Spelled first: how a token of each class is written. Then Trivia: what lies between tokens. Then Refusals: what
-- stands where a text is refused, for each of the rules L1 to L4.
-- Lexemes: the tokens without their places.
-- Front: what a text begins with, as a function, octet by octet.
pub mod Spelled
pub mod Trivia
pub mod Refusals
pub mod Lexemes
pub mod Front
pub mod Beginnings
