-- What is put on a sheet at once: a token, or the two `>` of a shift (P4_16 1.2, "Lexical constructs").
use Rattle.std.specs.Prelude.{ℕ, Bool, true, List, [], ◌∷◌}
use Rattle.std.specs.List.{flat_map, list_all}
use Rattle.p416_syntax.specs.declared.mark.Mark16.TheVariants as mark_of
use Rattle.p416_syntax.specs.SpeltLexemes.{is_identifier16, is_spelt_literal16}
use Rattle.p416_tok.specs.declared.kind.TokenKind16.{TokenKind16}
use Rattle.p416_tok.specs.declared.kind.TokenKind16.TheVariants as kind
use Rattle.p416_syntax.specs.Tokens.{Seen16, quoted, number, mark, string, annotation, include_line, joined as joined_greater}
use Rattle.token_sheet.specs.Words.{Word, word}
use Rattle.p416_sheet.specs.declared.sheet.Put16.{Put16}
use Rattle.p416_sheet.specs.declared.sheet.Token16.{Token16}
use Rattle.p416_sheet.specs.declared.sheet.Token16.TheVariants as token
use Rattle.p416_spelling.specs.Words.{word16}

-- the words of what is put
abbrev pub words_put : Token16 → List (Word TokenKind16)
words_put (token.Name text) = word kind.Name text ∷ []
words_put (token.Word w) = word16 (quoted w) ∷ []
words_put (token.Number n) = word16 (number n) ∷ []
words_put (token.Mark m) = word16 (mark m) ∷ []
words_put (token.Quoted text) = word16 (string text) ∷ []
words_put (token.At a) = word16 (annotation a) ∷ []
words_put (token.Include i) = word16 (include_line i) ∷ []
words_put token.ShiftRight = word16 joined_greater ∷ word16 (mark mark_of.Greater) ∷ []

-- A name, reserved or not, and what stands in a string, are identifiers; a number has its bounds.
abbrev pub is_put : Token16 → Bool
is_put (token.Name text) = is_identifier16 text
is_put (token.Word w) = true
is_put (token.Number n) = is_spelt_literal16 n
is_put (token.Mark m) = true
is_put (token.Quoted text) = is_identifier16 text
is_put (token.At a) = true
is_put (token.Include i) = true
is_put token.ShiftRight = true

-- of several, one after another
abbrev pub all_words_put : List Put16 → List (Word TokenKind16)
all_words_put puts = flat_map (λ put. words_put put.token) puts

abbrev pub are_put : List Put16 → Bool
are_put puts = list_all (λ put. is_put put.token) puts
