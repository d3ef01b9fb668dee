-- Read Division first: the tokens of a text, and the fault where there are none.
-- Layout: how the tokens lie in the text. Walk: the pieces that a text is divided into, one behind the other. Trivia:
-- what lies between the tokens. Octets: classes of octets. Pieces: marks and comments at the front of a text.
-- Literals: numbers there.
pub mod Division
pub mod Layout
pub mod Walk
pub mod Trivia
pub mod Octets
pub mod Pieces
pub mod Literals
