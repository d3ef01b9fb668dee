-- The words that the tokens of the grammar are written with (P4_16 1.2, "Lexical constructs").
use Rattle.std.specs.Prelude.{List, map}
use Rattle.p416_syntax.specs.declared.mark.Mark16.TheVariants as mark_of
use Rattle.p416_syntax.specs.Keywords.{keyword_text16}
use Rattle.p416_syntax.specs.Marks.{mark_text16}
use Rattle.p416_syntax.specs.Lines.{annotation_text16, include_text16}
use Rattle.p416_tok.specs.declared.kind.TokenKind16.{TokenKind16}
use Rattle.p416_tok.specs.declared.kind.TokenKind16.TheVariants as kind
use Rattle.p416_syntax.specs.Tokens.{Seen16, id, quoted, number, mark, string, annotation, include_line, joined as joined_greater, opens}
use Rattle.token_sheet.specs.Words.{Word, word, joined}
use Rattle.p416_spelling.specs.Spelled.{number_text16, string_text16}

-- The word of a token. The `>` that another one behind it touches is joined, and no other token is.
abbrev pub word16 : Seen16 → Word TokenKind16
word16 (id text) = word kind.Name text
word16 (quoted w) = word kind.Name (keyword_text16 w)
word16 (number n) = word (kind.Number n) (number_text16 n)
word16 (mark m) = word (kind.Mark m) (mark_text16 m)
word16 (string text) = word kind.Quoted (string_text16 text)
word16 (annotation a) = word (kind.At a) (annotation_text16 a)
word16 (include_line i) = word (kind.Include i) (include_text16 i)
word16 joined_greater = joined (kind.Mark mark_of.Greater) (mark_text16 mark_of.Greater)
word16 opens = word (kind.Mark mark_of.Less) (mark_text16 mark_of.Less)

abbrev pub words16 : List Seen16 → List (Word TokenKind16)
words16 tokens = map word16 tokens
