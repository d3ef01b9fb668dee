-- Tokens as the grammar sees them, and the marks that it quotes (P4_16 1.2, "P4 grammar"; what tells two `>` and the `<` of
-- `lookahead` apart is this project's own).
use Rattle.std.specs.Prelude.{ℕ, Bool, true, if◌then◌else◌, List, [], ◌∷◌, ◌++◌, Option, Some, None, codes}
use Rattle.std.specs.Str.{bytes_eq}
use Rattle.p416_syntax.specs.declared.keyword.Keyword16.{Keyword16}
use Rattle.p416_syntax.specs.declared.lexeme.Annotation16.{Annotation16}
use Rattle.p416_syntax.specs.declared.lexeme.Include16.{Include16}
use Rattle.p416_syntax.specs.declared.lexeme.Literal16.{Literal16}
use Rattle.p416_syntax.specs.declared.mark.Mark16.{Mark16}
use Rattle.p416_syntax.specs.declared.mark.Mark16.TheVariants as mark_of
use Rattle.p416_syntax.specs.Keywords.{keyword_text16, all_keywords16}
use Rattle.p416_syntax.specs.SpeltLexemes.{is_identifier16, is_name16, is_spelt_literal16}

-- A token as the grammar sees it.
pub data Seen16 : Type 0 where
  -- a name that is no reserved word
  id : (text : List ℕ) → Seen16
  -- a reserved word
  quoted : (word : Keyword16) → Seen16
  number : (n : Literal16) → Seen16
  mark : (m : Mark16) → Seen16
  string : (text : List ℕ) → Seen16
  annotation : (a : Annotation16) → Seen16
  include_line : (i : Include16) → Seen16
  -- a `>` that another `>` behind it touches; but no `>` that ends `bit<NUMBER>`
  joined : Seen16
  -- the `<` of `.lookahead<TYPE>(`
  opens : Seen16

-- a token that a text can have: names and strings are identifiers, and numbers fit
abbrev pub is_spelt_seen : Seen16 → Bool
is_spelt_seen (id text) = is_name16 text
is_spelt_seen (quoted word) = true
is_spelt_seen (number n) = is_spelt_literal16 n
is_spelt_seen (mark m) = true
is_spelt_seen (string text) = is_identifier16 text
is_spelt_seen (annotation a) = true
is_spelt_seen (include_line i) = true
is_spelt_seen joined = true
is_spelt_seen opens = true

-- the first of these words with this text
abbrev pub keyword_among : List ℕ → List Keyword16 → Option Keyword16
keyword_among text [] = None
keyword_among text (word ∷ words) = if bytes_eq text (keyword_text16 word) then Some word else keyword_among text words

abbrev pub seen_as : List ℕ → Option Keyword16 → Seen16
seen_as text None = id text
seen_as text (Some word) = quoted word

-- a name or a reserved word, by its text
abbrev pub seen_word : List ℕ → Seen16
seen_word text = seen_as text (keyword_among text all_keywords16)

-- the one name that the grammar quotes and that isn't reserved, but for members of enumerations
abbrev pub lookahead_text : List ℕ
lookahead_text = codes "lookahead"

abbrev pub brace_open : Seen16
brace_open = mark mark_of.BraceOpen

abbrev pub brace_close : Seen16
brace_close = mark mark_of.BraceClose

abbrev pub paren_open : Seen16
paren_open = mark mark_of.ParenOpen

abbrev pub paren_close : Seen16
paren_close = mark mark_of.ParenClose

abbrev pub bracket_open : Seen16
bracket_open = mark mark_of.BracketOpen

abbrev pub bracket_close : Seen16
bracket_close = mark mark_of.BracketClose

abbrev pub semicolon : Seen16
semicolon = mark mark_of.Semicolon

abbrev pub colon : Seen16
colon = mark mark_of.Colon

abbrev pub comma : Seen16
comma = mark mark_of.Comma

abbrev pub dot : Seen16
dot = mark mark_of.Dot

abbrev pub dots : Seen16
dots = mark mark_of.DotDot

abbrev pub equals : Seen16
equals = mark mark_of.Assign

abbrev pub less : Seen16
less = mark mark_of.Less

abbrev pub greater : Seen16
greater = mark mark_of.Greater

abbrev pub mask : Seen16
mask = mark mark_of.Mask

abbrev pub question : Seen16
question = mark mark_of.Question

-- what stands between parentheses, between braces and between brackets
abbrev pub in_parens : List Seen16 → List Seen16
in_parens inner = paren_open ∷ (inner ++ paren_close ∷ [])

abbrev pub in_braces : List Seen16 → List Seen16
in_braces inner = brace_open ∷ (inner ++ brace_close ∷ [])
