-- The tokens of a text are seen as those whose words they have, where these are told apart.
use Rattle.std.proofs.Common.{◌≡◌, ℕ, zero, suc, ◌+◌, ◌-◌, nat_eq, Bool, true, false, List, [], ◌∷◌, ◌++◌, length, take, drop, codes, refl, sym, ap, ◌∙◌, arith, cond, Option, Some, None}
use Rattle.std.specs.Prelude.{not, ◌&&◌, ◌||◌, nat_le, slice_get}
use Rattle.std.specs.Str.{bytes_eq}
use Rattle.std.specs.List.{list_all}
use Rattle.std.proofs.lemmas.Bool.{and_from, and_parts}
use Rattle.std.proofs.lemmas.Bool.Decides.{nat_tests}
use Rattle.std.proofs.lemmas.List.{take_at, length-append}
use Rattle.token_division.specs.declared.division.Token.{Token}
use Rattle.p416_syntax.specs.declared.keyword.Keyword16.{Keyword16}
use Rattle.p416_syntax.specs.declared.keyword.Keyword16.TheVariants as word_of_key
use Rattle.p416_syntax.specs.declared.mark.Mark16.{Mark16}
use Rattle.p416_syntax.specs.declared.mark.Mark16.TheVariants as mark_of
use Rattle.p416_syntax.specs.Keywords.{keyword_text16, all_keywords16, is_among16}
use Rattle.p416_syntax.specs.SpeltLexemes.{is_identifier16, is_name16}
use Rattle.p416_tok.specs.declared.kind.TokenKind16.{TokenKind16}
use Rattle.p416_tok.specs.declared.kind.TokenKind16.TheVariants as kind
use Rattle.p416_tok.specs.Lexemes.{inner}
use Rattle.p416_syntax.specs.Tokens.{Seen16, id, quoted, number, mark, string, annotation, include_line, joined, opens, seen_word, seen_as, keyword_among, lookahead_text, is_spelt_seen}
use Rattle.token_sheet.specs.Words.{first_of, touches, words_in}
use Rattle.p416_spelling.specs.Spelled.{meets16, is_greater16, string_text16}
use Rattle.p416_spelling.specs.Words.{word16, words16}
use Rattle.p416_reader.specs.Seen as seen
use Rattle.p416_reader.specs.Seen.{Tokens, octets_in, back, ahead, is_less_kind, is_greater_kind, is_dot_kind, is_paren_kind, is_bracket_kind, is_bracket_end_kind, is_number_kind, is_name_kind, is_of_kind, is_word_with, is_bit_type, is_bits, is_free, is_touched, is_past_type, follows_lookahead, seen_greater, seen_less, seen_as_kind, seen_at, seen_from, seen16}
use Rattle.p416_syntax.specs.declared.parts.Type16.{Type16}
use Rattle.p416_syntax.specs.declared.parts.Type16.TheVariants as type_of
use Rattle.p416_syntax.specs.Tokens.{greater, paren_open}
use Rattle.p416_syntax.specs.Written.{written_type}
use Rattle.p416_read_back.proofs.Told.{W, kind_is, word_is, follows, BeginsType, Fits, Told}

-- behind a `<` stands a type, and `>(` behind it, by the words there
abbrev ends_type : List W → ℕ → ℕ → Bool
ends_type ws n m = kind_is is_greater_kind (slice_get ws n) && kind_is is_paren_kind (slice_get ws m)

abbrev is_sized : List W → Bool
is_sized ws =
    kind_is is_bracket_kind (slice_get ws 1) && (kind_is is_number_kind (slice_get ws 2) && (kind_is is_bracket_end_kind (slice_get ws 3) && ends_type ws 4 5))

abbrev begins_type : List W → Bool
begins_type ws = word_is is_bits (slice_get ws 0) || (word_is is_free (slice_get ws 0) && (ends_type ws 1 2 || is_sized ws))

or_second : (a b c : Bool) → b ≡ true → c ≡ true → (a || (b && c)) ≡ true
or_second true b c h k = refl
or_second false b c h k = and_from b c h k

free_text : (text : List ℕ) → is_name16 text ≡ true → is_free text ≡ true
free_text text h = (and_parts (is_identifier16 text) (is_free text) h).1

type_by : (of : Type16) (more : List Seen16) → list_all is_spelt_seen (written_type of ++ greater ∷ paren_open ∷ more) ≡ true → begins_type (words16 (written_type of ++ greater ∷ paren_open ∷ more)) ≡ true
type_by (type_of.Bit width) more h = refl
type_by type_of.Bool more h = refl
type_by (type_of.Named text None) more h = or_second (is_bits text) (is_free text) true (free_text text (and_parts (is_name16 text) _ h).0) refl
type_by (type_of.Named text (Some size)) more h = or_second (is_bits text) (is_free text) true (free_text text (and_parts (is_name16 text) _ h).0) refl

type_begins : (tokens : List Seen16) → BeginsType tokens → list_all is_spelt_seen tokens ≡ true → begins_type (words16 tokens) ≡ true
type_begins tokens b h = ap (λ xs. begins_type (words16 xs)) b.2 ∙ type_by b.0 b.1 (ap (list_all is_spelt_seen) (sym b.2) ∙ h)

-- the tokens that were gone past, the last of them first, in front of the others
abbrev pub onto : Tokens → Tokens → Tokens
onto [] rest = rest
onto (t ∷ before) rest = onto before (t ∷ rest)

get_onto : (before rest : Tokens) (k : ℕ) → slice_get (onto before rest) (length before + k) ≡ slice_get rest k
get_onto [] rest k = let e : 0 + k ≡ k = omega arith in ap (slice_get rest) e
get_onto (t ∷ before) rest k = (let e : suc (length before) + k ≡ length before + suc k = omega arith in ap (slice_get (onto before (t ∷ rest))) e) ∙ get_onto before (t ∷ rest) (suc k)

drop_onto : (before rest : Tokens) → drop (length before) (onto before rest) ≡ rest
drop_onto before rest = (let e : length before ≡ length before + 0 = omega arith in ap (λ n. drop n (onto before rest)) e) ∙ by before rest 0
  where
    by : (before rest : Tokens) (k : ℕ) → drop (length before + k) (onto before rest) ≡ drop k rest
    by [] rest k = let e : 0 + k ≡ k = omega arith in ap (λ n. drop n rest) e
    by (t ∷ before) rest k = (let e : suc (length before) + k ≡ length before + suc k = omega arith in ap (λ n. drop n (onto before (t ∷ rest))) e) ∙ by before (t ∷ rest) (suc k)

-- a token has the class and the octets of a word
pub record IsAlike (text : List ℕ) (t : Token TokenKind16) (w : W) : Type 0 where
  pub kind_is_same : t.kind ≡ w.kind
  pub octets_same : octets_in text t ≡ w.octets

abbrev pub AreAlike : List ℕ → Tokens → List W → Type 0
AreAlike text [] [] = Unit {0}
AreAlike text [] (w ∷ ws) = ⊥
AreAlike text (t ∷ ts) [] = ⊥
AreAlike text (t ∷ ts) (w ∷ ws) = IsAlike text t w × AreAlike text ts ws

-- tests of a token are those of its word
abbrev pub IsAlikeOption : List ℕ → Option (Token TokenKind16) → Option W → Type 0
IsAlikeOption text None None = Unit {0}
IsAlikeOption text None (Some w) = ⊥
IsAlikeOption text (Some t) None = ⊥
IsAlikeOption text (Some t) (Some w) = IsAlike text t w

alike_at : (text : List ℕ) (ts : Tokens) (ws : List W) (k : ℕ) → AreAlike text ts ws → IsAlikeOption text (slice_get ts k) (slice_get ws k)
alike_at text [] [] k h = tt
alike_at text [] (w ∷ ws) k h = absurd h
alike_at text (t ∷ ts) [] k h = absurd h
alike_at text (t ∷ ts) (w ∷ ws) zero h = h.0
alike_at text (t ∷ ts) (w ∷ ws) (suc k) h = alike_at text ts ws k h.1

same_kind : (text : List ℕ) (test : TokenKind16 → Bool) (t : Option (Token TokenKind16)) (w : Option W) → IsAlikeOption text t w → is_of_kind test t ≡ kind_is test w
same_kind text test None None h = refl
same_kind text test None (Some w) h = absurd h
same_kind text test (Some t) None h = absurd h
same_kind text test (Some t) (Some w) h = ap test h.kind_is_same

same_word : (text : List ℕ) (test : List ℕ → Bool) (t : Option (Token TokenKind16)) (w : Option W) → IsAlikeOption text t w → is_word_with text test t ≡ word_is test w
same_word text test None None h = refl
same_word text test None (Some w) h = absurd h
same_word text test (Some t) None h = absurd h
same_word text test (Some t) (Some w) h = (λ i. is_name_kind (h.kind_is_same i) && test (h.octets_same i))

-- what a token is seen as by its class
word_seen : (w : Keyword16) → seen_word (keyword_text16 w) ≡ quoted w
word_seen word_of_key.V1Switch = refl
word_seen word_of_key.Main = refl
word_seen word_of_key.Header = refl
word_seen word_of_key.Bit = refl
word_seen word_of_key.Struct = refl
word_seen word_of_key.Parser = refl
word_seen word_of_key.Control = refl
word_seen word_of_key.Apply = refl
word_seen word_of_key.Bool = refl
word_seen word_of_key.In = refl
word_seen word_of_key.Out = refl
word_seen word_of_key.InOut = refl
word_seen word_of_key.Counter = refl
word_seen word_of_key.DirectCounter = refl
word_seen word_of_key.Register = refl
word_seen word_of_key.Meter = refl
word_seen word_of_key.Action = refl
word_seen word_of_key.Table = refl
word_seen word_of_key.Key = refl
word_seen word_of_key.Actions = refl
word_seen word_of_key.NoAction = refl
word_seen word_of_key.Size = refl
word_seen word_of_key.Counters = refl
word_seen word_of_key.DefaultAction = refl
word_seen word_of_key.State = refl
word_seen word_of_key.Transition = refl
word_seen word_of_key.Select = refl
word_seen word_of_key.Accept = refl
word_seen word_of_key.Reject = refl
word_seen word_of_key.Default = refl
word_seen word_of_key.Underscore = refl
word_seen word_of_key.If = refl
word_seen word_of_key.Else = refl
word_seen word_of_key.Switch = refl
word_seen word_of_key.ActionRun = refl
word_seen word_of_key.True = refl
word_seen word_of_key.False = refl
word_seen word_of_key.Error = refl

not_among : (text : List ℕ) (words : List Keyword16) → is_among16 text words ≡ false → keyword_among text words ≡ None
not_among text [] h = refl
not_among text (w ∷ words) h = by (bytes_eq text (keyword_text16 w)) refl h (not_among text words)
  where
    by : (t : Bool) → bytes_eq text (keyword_text16 w) ≡ t → (t || is_among16 text words) ≡ false → (is_among16 text words ≡ false → keyword_among text words ≡ None) → cond t (Some w) (keyword_among text words) ≡ None
    by true e h later = absurd (cc)
    by false e h later = later h

not_true : (b : Bool) → not b ≡ true → b ≡ false
not_true true e = absurd (cc)
not_true false e = refl

id_seen : (text : List ℕ) → is_name16 text ≡ true → seen_word text ≡ id text
id_seen text h = ap (seen_as text) (not_among text all_keywords16 (not_true _ (and_parts (is_identifier16 text) _ h).1))

string_inner : (text : List ℕ) → inner (string_text16 text) ≡ text
string_inner text =
    let size : length (string_text16 text) - 2 ≡ length text = omega (arith, length-append text (34 ∷ [])) in
    ap (λ n. take n (text ++ 34 ∷ [])) size ∙ take_at text (34 ∷ []) (length text) refl

greater_mark : (m : Mark16) → is_greater_kind (kind.Mark m) ≡ is_greater16 (kind.Mark m)
greater_mark mark_of.BraceOpen = refl
greater_mark mark_of.BraceClose = refl
greater_mark mark_of.ParenOpen = refl
greater_mark mark_of.ParenClose = refl
greater_mark mark_of.BracketOpen = refl
greater_mark mark_of.BracketClose = refl
greater_mark mark_of.Semicolon = refl
greater_mark mark_of.Colon = refl
greater_mark mark_of.Comma = refl
greater_mark mark_of.Dot = refl
greater_mark mark_of.DotDot = refl
greater_mark mark_of.Assign = refl
greater_mark mark_of.Less = refl
greater_mark mark_of.Greater = refl
greater_mark mark_of.LessEqual = refl
greater_mark mark_of.GreaterEqual = refl
greater_mark mark_of.Equal = refl
greater_mark mark_of.NotEqual = refl
greater_mark mark_of.ShiftLeft = refl
greater_mark mark_of.Plus = refl
greater_mark mark_of.PlusPlus = refl
greater_mark mark_of.Minus = refl
greater_mark mark_of.SaturatingPlus = refl
greater_mark mark_of.SaturatingMinus = refl
greater_mark mark_of.Star = refl
greater_mark mark_of.Ampersand = refl
greater_mark mark_of.AndAnd = refl
greater_mark mark_of.Mask = refl
greater_mark mark_of.Bar = refl
greater_mark mark_of.OrOr = refl
greater_mark mark_of.Caret = refl
greater_mark mark_of.Tilde = refl
greater_mark mark_of.Bang = refl
greater_mark mark_of.Question = refl

-- a `>` that is told to be touched is touched
touched_is : (t : Token TokenKind16) (ts : Tokens) → t.kind ≡ kind.Mark mark_of.Greater → is_touched t (slice_get (t ∷ ts) 1) ≡ touches meets16 t (first_of ts)
touched_is t [] e = refl
touched_is t (next ∷ ts) e = by next.kind ∙ sym (ap (λ k. meets16 k next.kind && nat_eq t.to next.«from») e)
  where
    by : (k : TokenKind16) → (is_greater_kind k && nat_eq t.to next.«from») ≡ (is_greater16 k && nat_eq t.to next.«from»)
    by kind.Name = refl
    by (kind.Number n) = refl
    by (kind.Mark m) = ap (λ b. b && nat_eq t.to next.«from») (greater_mark m)
    by kind.Quoted = refl
    by (kind.At a) = refl
    by (kind.Include i) = refl

-- the tokens before a place, and behind it
back_one : (before rest : Tokens) → back (onto before rest) (length before) 1 ≡ slice_get before 0
back_one [] rest = refl
back_one (t ∷ before) rest =
    let some : nat_le 1 (suc (length before)) ≡ true = grind (arith, nat_tests) in
    let there : suc (length before) - 1 ≡ length before + 0 = omega arith in
    ap (λ b. cond b (slice_get (onto before (t ∷ rest)) (suc (length before) - 1)) None) some ∙ ap (slice_get (onto before (t ∷ rest))) there ∙ get_onto before (t ∷ rest) 0

back_two : (before rest : Tokens) → back (onto before rest) (length before) 2 ≡ slice_get before 1
back_two [] rest = refl
back_two (t ∷ []) rest = let none : nat_le 2 (length (t ∷ [])) ≡ false = grind (arith, nat_tests) in ap (λ b. cond b (slice_get (onto [] (t ∷ rest)) (length (t ∷ []) - 2)) None) none
back_two (t ∷ u ∷ before) rest =
    let some : nat_le 2 (suc (suc (length before))) ≡ true = grind (arith, nat_tests) in
    let there : suc (suc (length before)) - 2 ≡ length before + 0 = omega arith in
    ap (λ b. cond b (slice_get (onto before (u ∷ t ∷ rest)) (suc (suc (length before)) - 2)) None) some ∙ ap (slice_get (onto before (u ∷ t ∷ rest))) there ∙ get_onto before (u ∷ t ∷ rest) 0

ahead_is : (before : Tokens) (t : Token TokenKind16) (ts : Tokens) (k : ℕ) → ahead (onto before (t ∷ ts)) (length before) (suc k) ≡ slice_get ts k
ahead_is before t ts k = ap (λ xs. slice_get xs (suc k)) (drop_onto before (t ∷ ts))

no_type : (a b c d e : Bool) → b ≡ false → e ≡ false → ((a && (b && c)) || ((d && b) || e)) ≡ false
no_type true true c d e p q = absurd (cc)
no_type true false c true e p q = q
no_type true false c false e p q = q
no_type false true c d e p q = absurd (cc)
no_type false false c true e p q = q
no_type false false c false e p q = q

module _ (text : List ℕ) (before : Tokens) (wb : List W) (hb : AreAlike text before wb) (t : Token TokenKind16) (ts : Tokens) (ws : List W) (h : AreAlike text ts ws) where
  abbrev all : Tokens
  all = onto before (t ∷ ts)

  first_kind : (test : TokenKind16 → Bool) → is_of_kind test (back all (length before) 1) ≡ kind_is test (slice_get wb 0)
  first_kind test = ap (is_of_kind test) (back_one before (t ∷ ts)) ∙ same_kind text test (slice_get before 0) (slice_get wb 0) (alike_at text before wb 0 hb)

  second_kind : (test : TokenKind16 → Bool) → is_of_kind test (back all (length before) 2) ≡ kind_is test (slice_get wb 1)
  second_kind test = ap (is_of_kind test) (back_two before (t ∷ ts)) ∙ same_kind text test (slice_get before 1) (slice_get wb 1) (alike_at text before wb 1 hb)

  first_word : (test : List ℕ → Bool) → is_word_with text test (back all (length before) 1) ≡ word_is test (slice_get wb 0)
  first_word test = ap (is_word_with text test) (back_one before (t ∷ ts)) ∙ same_word text test (slice_get before 0) (slice_get wb 0) (alike_at text before wb 0 hb)

  pub not_past : kind_is is_greater_kind (slice_get wb 0) ≡ false → kind_is is_less_kind (slice_get wb 1) ≡ false → is_past_type text all (length before) ≡ false
  not_past g l =
      no_type (is_of_kind is_number_kind (back all (length before) 1)) (is_of_kind is_less_kind (back all (length before) 2)) (is_bit_type text (back all (length before) 4) (back all (length before) 3)) (is_word_with text (bytes_eq (codes "bool")) (back all (length before) 1)) (is_of_kind is_greater_kind (back all (length before) 1))
      (second_kind is_less_kind ∙ l) (first_kind is_greater_kind ∙ g)

  pub follows_is : follows_lookahead text all (length before) ≡ follows (slice_get wb 1) (slice_get wb 0)
  follows_is = (λ i. first_word (bytes_eq lookahead_text) i && second_kind is_dot_kind i)

  kind_ahead : (test : TokenKind16 → Bool) (k : ℕ) → is_of_kind test (ahead all (length before) (suc k)) ≡ kind_is test (slice_get ws k)
  kind_ahead test k = ap (is_of_kind test) (ahead_is before t ts k) ∙ same_kind text test (slice_get ts k) (slice_get ws k) (alike_at text ts ws k h)

  word_ahead : (test : List ℕ → Bool) → is_word_with text test (ahead all (length before) 1) ≡ word_is test (slice_get ws 0)
  word_ahead test = ap (is_word_with text test) (ahead_is before t ts 0) ∙ same_word text test (slice_get ts 0) (slice_get ws 0) (alike_at text ts ws 0 h)

  pub begins_is : seen.begins_type text all (length before) ≡ begins_type ws
  begins_is =
      (λ i.
      word_ahead is_bits i
      || (word_ahead is_free i
      && ((kind_ahead is_greater_kind 1 i && kind_ahead is_paren_kind 2 i)
      || (kind_ahead is_bracket_kind 1 i && (kind_ahead is_number_kind 2 i && (kind_ahead is_bracket_end_kind 3 i && (kind_ahead is_greater_kind 4 i && kind_ahead is_paren_kind 5 i)))))))

  pub touched : t.kind ≡ kind.Mark mark_of.Greater → is_touched t (ahead all (length before) 1) ≡ touches meets16 t (first_of ts)
  touched e = ap (is_touched t) (ap (λ xs. slice_get xs 1) (drop_onto before (t ∷ ts))) ∙ touched_is t ts e

-- each token
module _ (text : List ℕ) (before : Tokens) (wb : List W) (hb : AreAlike text before wb) (t : Token TokenKind16) (ts : Tokens) (tokens : List Seen16) (h : AreAlike text ts (words16 tokens)) where
  by_kind : (k : TokenKind16) (s : Seen16) → t.kind ≡ k → seen_as_kind text (onto before (t ∷ ts)) (length before) t k ≡ s → seen_at text (onto before (t ∷ ts)) (length before) t ≡ s
  by_kind k s e f = ap (seen_as_kind text (onto before (t ∷ ts)) (length before) t) e ∙ f

  marks_seen : (m : Mark16) → IsAlike text t (word16 (mark m)) → touches meets16 t (first_of ts) ≡ false → Fits (slice_get wb 1, slice_get wb 0) (mark m) tokens → seen.seen_mark text (onto before (t ∷ ts)) (length before) t m ≡ mark m
  marks_seen mark_of.BraceOpen a j f = refl
  marks_seen mark_of.BraceClose a j f = refl
  marks_seen mark_of.ParenOpen a j f = refl
  marks_seen mark_of.ParenClose a j f = refl
  marks_seen mark_of.BracketOpen a j f = refl
  marks_seen mark_of.BracketClose a j f = refl
  marks_seen mark_of.Semicolon a j f = refl
  marks_seen mark_of.Colon a j f = refl
  marks_seen mark_of.Comma a j f = refl
  marks_seen mark_of.Dot a j f = refl
  marks_seen mark_of.DotDot a j f = refl
  marks_seen mark_of.Assign a j f = refl
  marks_seen mark_of.Less a j f = ap seen_less (ap (λ b. b && seen.begins_type text (onto before (t ∷ ts)) (length before)) (follows_is text before wb hb t ts (words16 tokens) h ∙ f))
  marks_seen mark_of.Greater a j f = ap seen_greater (ap (λ b. b && not (is_past_type text (onto before (t ∷ ts)) (length before))) (touched text before wb hb t ts (words16 tokens) h a.kind_is_same ∙ j))
  marks_seen mark_of.LessEqual a j f = refl
  marks_seen mark_of.GreaterEqual a j f = refl
  marks_seen mark_of.Equal a j f = refl
  marks_seen mark_of.NotEqual a j f = refl
  marks_seen mark_of.ShiftLeft a j f = refl
  marks_seen mark_of.Plus a j f = refl
  marks_seen mark_of.PlusPlus a j f = refl
  marks_seen mark_of.Minus a j f = refl
  marks_seen mark_of.SaturatingPlus a j f = refl
  marks_seen mark_of.SaturatingMinus a j f = refl
  marks_seen mark_of.Star a j f = refl
  marks_seen mark_of.Ampersand a j f = refl
  marks_seen mark_of.AndAnd a j f = refl
  marks_seen mark_of.Mask a j f = refl
  marks_seen mark_of.Bar a j f = refl
  marks_seen mark_of.OrOr a j f = refl
  marks_seen mark_of.Caret a j f = refl
  marks_seen mark_of.Tilde a j f = refl
  marks_seen mark_of.Bang a j f = refl
  marks_seen mark_of.Question a j f = refl

  pub one_seen : (s : Seen16) → IsAlike text t (word16 s) → touches meets16 t (first_of ts) ≡ (word16 s).is_joined → is_spelt_seen s ≡ true → list_all is_spelt_seen tokens ≡ true → Fits (slice_get wb 1, slice_get wb 0) s tokens → seen_at text (onto before (t ∷ ts)) (length before) t ≡ s
  one_seen (id name) a j s r f = by_kind kind.Name (id name) a.kind_is_same (ap seen_word a.octets_same ∙ id_seen name s)
  one_seen (quoted w) a j s r f = by_kind kind.Name (quoted w) a.kind_is_same (ap seen_word a.octets_same ∙ word_seen w)
  one_seen (number n) a j s r f = by_kind (kind.Number n) (number n) a.kind_is_same refl
  one_seen (mark m) a j s r f = by_kind (kind.Mark m) (mark m) a.kind_is_same (marks_seen m a j f)
  one_seen (string name) a j s r f = by_kind kind.Quoted (string name) a.kind_is_same (ap (λ xs. string (inner xs)) a.octets_same ∙ ap string (string_inner name))
  one_seen (annotation n) a j s r f = by_kind (kind.At n) (annotation n) a.kind_is_same refl
  one_seen (include_line i) a j s r f = by_kind (kind.Include i) (include_line i) a.kind_is_same refl
  one_seen joined a j s r f =
      let past = not_past text before wb hb t ts (words16 tokens) h f.0 f.1 in
      by_kind (kind.Mark mark_of.Greater) joined a.kind_is_same
      (ap seen_greater (and_from (is_touched t (ahead (onto before (t ∷ ts)) (length before) 1)) (not (is_past_type text (onto before (t ∷ ts)) (length before))) (touched text before wb hb t ts (words16 tokens) h a.kind_is_same ∙ j) (ap not past)))
  one_seen opens a j s r f =
      by_kind (kind.Mark mark_of.Less) opens a.kind_is_same
      (ap seen_less (and_from (follows_lookahead text (onto before (t ∷ ts)) (length before)) (seen.begins_type text (onto before (t ∷ ts)) (length before)) (follows_is text before wb hb t ts (words16 tokens) h ∙ f.0) (begins_is text before wb hb t ts (words16 tokens) h ∙ type_begins tokens f.1 r)))

-- all tokens
abbrev head_of_words : W → List W → W
head_of_words other [] = other
head_of_words other (w ∷ ws) = w

abbrev tail_of_words : List W → List W
tail_of_words [] = []
tail_of_words (w ∷ ws) = ws

alike_words : (text : List ℕ) (ts : Tokens) (tokens : List Seen16) → words_in meets16 text ts ≡ words16 tokens → AreAlike text ts (words16 tokens)
alike_words text [] [] e = tt
alike_words text [] (s ∷ tokens) e = absurd (cc)
alike_words text (t ∷ ts) [] e = absurd (cc)
alike_words text (t ∷ ts) (s ∷ tokens) e =
    let w = ap (head_of_words (word16 s)) e in
    (record { kind_is_same = ap (λ (x : W). x.kind) w; octets_same = ap (λ (x : W). x.octets) w }, alike_words text ts tokens (ap tail_of_words e))

seen_rest : (text : List ℕ) (before : Tokens) (wb : List W) (ts : Tokens) (tokens : List Seen16) → AreAlike text before wb → words_in meets16 text ts ≡ words16 tokens → list_all is_spelt_seen tokens ≡ true → Told (slice_get wb 1, slice_get wb 0) tokens → seen_from text (onto before ts) (length before) ts ≡ tokens
seen_rest text before wb [] [] hb e s d = refl
seen_rest text before wb [] (x ∷ tokens) hb e s d = absurd (cc)
seen_rest text before wb (t ∷ ts) [] hb e s d = absurd (cc)
seen_rest text before wb (t ∷ ts) (x ∷ tokens) hb e s d =
    let w = ap (head_of_words (word16 x)) e in
    let alike : IsAlike text t (word16 x) = record { kind_is_same = ap (λ (y : W). y.kind) w; octets_same = ap (λ (y : W). y.octets) w } in
    let later = ap tail_of_words e in
    let spelt = and_parts (is_spelt_seen x) (list_all is_spelt_seen tokens) s in
    (λ i. one_seen text before wb hb t ts tokens (alike_words text ts tokens later) x alike (ap (λ (y : W). y.is_joined) w) spelt.0 spelt.1 d.0 i
    ∷ seen_rest text (t ∷ before) (word16 x ∷ wb) ts tokens (alike, hb) later spelt.1 d.1 i)

pub seen_is : (text : List ℕ) (ts : Tokens) (tokens : List Seen16) → words_in meets16 text ts ≡ words16 tokens → list_all is_spelt_seen tokens ≡ true → Told (None, None) tokens → seen16 text ts ≡ tokens
seen_is text ts tokens e s d = seen_rest text [] [] ts tokens tt e s d
