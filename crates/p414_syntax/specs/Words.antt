-- The words and marks that the grammar of P4_14 quotes, as tokens (P4_14 1.0.5, "Summary of P4 BNF").
use Rattle.std.specs.Prelude.{ℕ, List}
use Rattle.p414_syntax.specs.declared.keyword.Keyword.{Keyword}
use Rattle.p414_syntax.specs.Keywords.{keyword_text}
use Rattle.p414_syntax.specs.declared.lexeme.Lexeme.{Lexeme}
use Rattle.p414_syntax.specs.declared.lexeme.Lexeme.TheVariants as lexeme
use Rattle.p414_syntax.specs.declared.mark.Mark.TheVariants as mark_of

-- a name
abbrev pub name : List ℕ → Lexeme
name text = lexeme.Name text

-- a word that the grammar quotes
abbrev pub keyword : Keyword → Lexeme
keyword word = name (keyword_text word)

abbrev pub brace_open : Lexeme
brace_open = lexeme.Mark mark_of.BraceOpen

abbrev pub brace_close : Lexeme
brace_close = lexeme.Mark mark_of.BraceClose

abbrev pub paren_open : Lexeme
paren_open = lexeme.Mark mark_of.ParenOpen

abbrev pub paren_close : Lexeme
paren_close = lexeme.Mark mark_of.ParenClose

abbrev pub bracket_open : Lexeme
bracket_open = lexeme.Mark mark_of.BracketOpen

abbrev pub bracket_close : Lexeme
bracket_close = lexeme.Mark mark_of.BracketClose

abbrev pub semicolon : Lexeme
semicolon = lexeme.Mark mark_of.Semicolon

abbrev pub colon : Lexeme
colon = lexeme.Mark mark_of.Colon

abbrev pub comma : Lexeme
comma = lexeme.Mark mark_of.Comma

abbrev pub dot : Lexeme
dot = lexeme.Mark mark_of.Dot

abbrev pub plus : Lexeme
plus = lexeme.Mark mark_of.Plus

abbrev pub minus : Lexeme
minus = lexeme.Mark mark_of.Minus

abbrev pub star : Lexeme
star = lexeme.Mark mark_of.Star

abbrev pub equal : Lexeme
equal = lexeme.Mark mark_of.Equal
