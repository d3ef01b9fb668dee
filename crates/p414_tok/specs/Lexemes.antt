-- The tokens of a text without their places, each read where it lies.
use Rattle.std.specs.Prelude.{ℕ, ◌-◌, List, map, take, drop}
use Rattle.p414_syntax.specs.declared.lexeme.Lexeme.{Lexeme}
use Rattle.p414_syntax.specs.declared.lexeme.Lexeme.TheVariants as lexeme
use Rattle.token_division.specs.declared.division.Token.{Token}
use Rattle.p414_tok.specs.declared.kind.TokenKind14.{TokenKind14}
use Rattle.p414_tok.specs.declared.kind.TokenKind14.TheVariants as kind

-- a token of this class with these octets: a name by its octets, a number and a mark by their class
abbrev pub lexeme_as : TokenKind14 → List ℕ → Lexeme
lexeme_as kind.Name octets = lexeme.Name octets
lexeme_as (kind.Number n) octets = lexeme.Number n
lexeme_as (kind.Mark m) octets = lexeme.Mark m

-- a token of the text, by its class and its octets
abbrev pub lexeme_in : List ℕ → Token TokenKind14 → Lexeme
lexeme_in text token = lexeme_as token.kind (take (token.to - token.from) (drop token.from text))

abbrev pub lexemes : List ℕ → List (Token TokenKind14) → List Lexeme
lexemes text tokens = map (lexeme_in text) tokens
