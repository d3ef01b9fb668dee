-- The tokens of a text without their places, each read where it lies.
use Rattle.std.specs.Prelude.{ℕ, ◌-◌, List, map, length, take, drop}
use Rattle.p416_syntax.specs.declared.lexeme.Lexeme16.{Lexeme16}
use Rattle.p416_syntax.specs.declared.lexeme.Lexeme16.TheVariants as lexeme
use Rattle.token_division.specs.declared.division.Token.{Token}
use Rattle.p416_tok.specs.declared.kind.TokenKind16.{TokenKind16}
use Rattle.p416_tok.specs.declared.kind.TokenKind16.TheVariants as kind

-- what stands between the first octet and the last
abbrev pub inner : List ℕ → List ℕ
inner octets = take (length octets - 2) (drop 1 octets)

-- a token of this class with these octets: a name by its octets, a string by what stands between its quotes, and any
-- other by its class
abbrev pub lexeme_as : TokenKind16 → List ℕ → Lexeme16
lexeme_as kind.Name octets = lexeme.Name octets
lexeme_as (kind.Number n) octets = lexeme.Number n
lexeme_as (kind.Mark m) octets = lexeme.Mark m
lexeme_as kind.Quoted octets = lexeme.Quoted (inner octets)
lexeme_as (kind.At a) octets = lexeme.At a
lexeme_as (kind.Include i) octets = lexeme.Include i

-- a token of the text, by its class and its octets
abbrev pub lexeme_in : List ℕ → Token TokenKind16 → Lexeme16
lexeme_in text token = lexeme_as token.kind (take (token.to - token.from) (drop token.from text))

abbrev pub lexemes16 : List ℕ → List (Token TokenKind16) → List Lexeme16
lexemes16 text tokens = map (lexeme_in text) tokens
