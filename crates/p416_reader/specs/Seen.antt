-- What the grammar sees of the tokens of a text: each with its text and its value, and told apart by its neighbours where two
-- `>` may be a shift, and where a `<` may begin the type of a `lookahead` (this project's own).
use Rattle.std.specs.Prelude.{ℕ, suc, ◌+◌, ◌-◌, Bool, true, false, not, ◌&&◌, ◌||◌, nat_eq, nat_le, if◌then◌else◌, List, [], ◌∷◌, Option, Some, None, take, drop, slice_get, codes}
use Rattle.std.specs.Str.{bytes_eq}
use Rattle.token_division.specs.declared.division.Token.{Token}
use Rattle.p416_syntax.specs.declared.mark.Mark16.{Mark16}
use Rattle.p416_syntax.specs.declared.mark.Mark16.TheVariants as mark_of
use Rattle.p416_syntax.specs.Keywords.{is_reserved16}
use Rattle.p416_tok.specs.declared.kind.TokenKind16.{TokenKind16}
use Rattle.p416_tok.specs.declared.kind.TokenKind16.TheVariants as kind
use Rattle.p416_tok.specs.Lexemes.{inner}
use Rattle.p416_syntax.specs.Tokens.{Seen16, number, mark, string, annotation, include_line, joined, opens, seen_word, lookahead_text}

abbrev pub Tokens : Type 0
Tokens = List (Token TokenKind16)

-- the octets of a token
abbrev pub octets_in : List ℕ → Token TokenKind16 → List ℕ
octets_in text token = take (token.to - token.from) (drop token.from text)

-- the token so many places before this place, and so many behind it
abbrev pub back : Tokens → ℕ → ℕ → Option (Token TokenKind16)
back all place steps = if nat_le steps place then slice_get all (place - steps) else None

abbrev pub ahead : Tokens → ℕ → ℕ → Option (Token TokenKind16)
ahead all place steps = slice_get (drop place all) steps

-- tests of a token that may be missing

abbrev pub is_less_kind : TokenKind16 → Bool
is_less_kind (kind.Mark mark_of.Less) = true
is_less_kind _ = false

abbrev pub is_greater_kind : TokenKind16 → Bool
is_greater_kind (kind.Mark mark_of.Greater) = true
is_greater_kind _ = false

abbrev pub is_dot_kind : TokenKind16 → Bool
is_dot_kind (kind.Mark mark_of.Dot) = true
is_dot_kind _ = false

abbrev pub is_paren_kind : TokenKind16 → Bool
is_paren_kind (kind.Mark mark_of.ParenOpen) = true
is_paren_kind _ = false

abbrev pub is_bracket_kind : TokenKind16 → Bool
is_bracket_kind (kind.Mark mark_of.BracketOpen) = true
is_bracket_kind _ = false

abbrev pub is_bracket_end_kind : TokenKind16 → Bool
is_bracket_end_kind (kind.Mark mark_of.BracketClose) = true
is_bracket_end_kind _ = false

abbrev pub is_number_kind : TokenKind16 → Bool
is_number_kind (kind.Number n) = true
is_number_kind _ = false

abbrev pub is_name_kind : TokenKind16 → Bool
is_name_kind kind.Name = true
is_name_kind _ = false

abbrev pub is_of_kind : (TokenKind16 → Bool) → Option (Token TokenKind16) → Bool
is_of_kind test None = false
is_of_kind test (Some token) = test token.kind

-- a name or a word whose text passes the test
abbrev pub is_word_with : List ℕ → (List ℕ → Bool) → Option (Token TokenKind16) → Bool
is_word_with text test None = false
is_word_with text test (Some token) = is_name_kind token.kind && test (octets_in text token)

-- the token behind this one is a `>` that touches it
abbrev pub is_touched : Token TokenKind16 → Option (Token TokenKind16) → Bool
is_touched token None = false
is_touched token (Some next) = is_greater_kind next.kind && nat_eq token.to next.from

-- the word `bit`, where it begins a type: behind a dot it is a member
abbrev pub is_bit_type : List ℕ → Option (Token TokenKind16) → Option (Token TokenKind16) → Bool
is_bit_type text before word = is_word_with text (bytes_eq (codes "bit")) word && not (is_of_kind is_dot_kind before)

-- `bit<NUMBER` of a type stands before this place
abbrev pub ends_bit : List ℕ → Tokens → ℕ → Bool
ends_bit text all place =
    is_of_kind is_number_kind (back all place 1) && (is_of_kind is_less_kind (back all place 2) && is_bit_type text (back all place 4) (back all place 3))

-- `<bool` stands before this place
abbrev pub ends_bool : List ℕ → Tokens → ℕ → Bool
ends_bool text all place = is_word_with text (bytes_eq (codes "bool")) (back all place 1) && is_of_kind is_less_kind (back all place 2)

-- no operator may stand at this place, since `bit<NUMBER`, `<bool` or another `>` stands before it
abbrev pub is_past_type : List ℕ → Tokens → ℕ → Bool
is_past_type text all place = ends_bit text all place || (ends_bool text all place || is_of_kind is_greater_kind (back all place 1))

-- `.lookahead` stands before this place
abbrev pub follows_lookahead : List ℕ → Tokens → ℕ → Bool
follows_lookahead text all place = is_word_with text (bytes_eq lookahead_text) (back all place 1) && is_of_kind is_dot_kind (back all place 2)

-- `bit` or `bool`
abbrev pub is_bits : List ℕ → Bool
is_bits octets = bytes_eq (codes "bit") octets || bytes_eq (codes "bool") octets

-- a word that isn't reserved
abbrev pub is_free : List ℕ → Bool
is_free octets = not (is_reserved16 octets)

-- `>(` stands so many places behind this place
abbrev pub ends_type : Tokens → ℕ → ℕ → Bool
ends_type all place steps = is_of_kind is_greater_kind (ahead all place steps) && is_of_kind is_paren_kind (ahead all place (steps + 1))

-- a size in brackets and `>(` stand behind the token behind this place
abbrev pub is_sized : Tokens → ℕ → Bool
is_sized all place =
    is_of_kind is_bracket_kind (ahead all place 2) && (is_of_kind is_number_kind (ahead all place 3) && (is_of_kind is_bracket_end_kind (ahead all place 4) && ends_type all place 5))

-- behind this place stands `bit` or `bool`; or a name and `>(`, or a name, a size in brackets and `>(`
abbrev pub begins_type : List ℕ → Tokens → ℕ → Bool
begins_type text all place =
    is_word_with text is_bits (ahead all place 1)
    || (is_word_with text is_free (ahead all place 1) && (ends_type all place 2 || is_sized all place))

abbrev pub seen_greater : Bool → Seen16
seen_greater true = joined
seen_greater false = mark mark_of.Greater

abbrev pub seen_less : Bool → Seen16
seen_less true = opens
seen_less false = mark mark_of.Less

abbrev pub seen_mark : List ℕ → Tokens → ℕ → Token TokenKind16 → Mark16 → Seen16
seen_mark text all place token mark_of.Greater = seen_greater (is_touched token (ahead all place 1) && not (is_past_type text all place))
seen_mark text all place token mark_of.Less = seen_less (follows_lookahead text all place && begins_type text all place)
seen_mark text all place token m = mark m

-- a token at its place among all
abbrev pub seen_as_kind : List ℕ → Tokens → ℕ → Token TokenKind16 → TokenKind16 → Seen16
seen_as_kind text all place token kind.Name = seen_word (octets_in text token)
seen_as_kind text all place token (kind.Number n) = number n
seen_as_kind text all place token (kind.Mark m) = seen_mark text all place token m
seen_as_kind text all place token kind.Quoted = string (inner (octets_in text token))
seen_as_kind text all place token (kind.At a) = annotation a
seen_as_kind text all place token (kind.Include i) = include_line i

abbrev pub seen_at : List ℕ → Tokens → ℕ → Token TokenKind16 → Seen16
seen_at text all place token = seen_as_kind text all place token token.kind

abbrev pub seen_from : List ℕ → Tokens → ℕ → Tokens → List Seen16
seen_from text all place [] = []
seen_from text all place (token ∷ tokens) = seen_at text all place token ∷ seen_from text all (suc place) tokens

-- what the grammar sees of all tokens of a text
abbrev pub seen16 : List ℕ → Tokens → List Seen16
seen16 text tokens = seen_from text tokens 0 tokens
