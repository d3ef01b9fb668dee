-- The tokens of a text without their places, as the parser sees them.
use Rattle.p414_syntax.specs.declared.lexeme.Lexeme.{Lexeme}
use Rattle.p414_tok.specs.Lexemes.{lexeme_as}
use Rattle.p414_reader.specs.declared.token.TokenView.{TokenView}

-- a token by its class and its octets
abbrev pub lexeme_of : TokenView → Lexeme
lexeme_of token = lexeme_as token.kind token.octets.now
