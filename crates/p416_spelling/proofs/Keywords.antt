-- Reserved words, and the word of a token that may be a name or a reserved one.
use Rattle.std.proofs.Common.{◌≡◌, ℕ, Bool, true, false, List, [], ◌∷◌, refl, sym, ap, ◌∙◌, cond, Option, Some, None}
use Rattle.std.specs.Str.{bytes_eq}
use Rattle.std.specs.Cmp.Lexicographic.{same_text}
use Rattle.std.proofs.lemmas.Bool.{and_parts}
use Rattle.p416_syntax.specs.declared.keyword.Keyword16.{Keyword16}
use Rattle.p416_syntax.specs.declared.keyword.Keyword16.TheVariants as word_of
use Rattle.p416_syntax.specs.Keywords.{keyword_text16, all_keywords16}
use Rattle.p416_syntax.specs.SpeltLexemes.{is_identifier16}
use Rattle.p416_tok.specs.declared.kind.TokenKind16.TheVariants as kind
use Rattle.p416_syntax.specs.Tokens.{keyword_among, seen_as, seen_word, is_spelt_seen, dot}
use Rattle.token_sheet.specs.Words.{word}
use Rattle.p416_spelling.specs.Words.{word16, words16}

-- a reserved word is an identifier
pub keyword_is : (w : Keyword16) → is_identifier16 (keyword_text16 w) ≡ true
keyword_is word_of.V1Switch = refl
keyword_is word_of.Main = refl
keyword_is word_of.Header = refl
keyword_is word_of.Bit = refl
keyword_is word_of.Struct = refl
keyword_is word_of.Parser = refl
keyword_is word_of.Control = refl
keyword_is word_of.Apply = refl
keyword_is word_of.Bool = refl
keyword_is word_of.In = refl
keyword_is word_of.Out = refl
keyword_is word_of.InOut = refl
keyword_is word_of.Counter = refl
keyword_is word_of.DirectCounter = refl
keyword_is word_of.Register = refl
keyword_is word_of.Meter = refl
keyword_is word_of.Action = refl
keyword_is word_of.Table = refl
keyword_is word_of.Key = refl
keyword_is word_of.Actions = refl
keyword_is word_of.NoAction = refl
keyword_is word_of.Size = refl
keyword_is word_of.Counters = refl
keyword_is word_of.DefaultAction = refl
keyword_is word_of.State = refl
keyword_is word_of.Transition = refl
keyword_is word_of.Select = refl
keyword_is word_of.Accept = refl
keyword_is word_of.Reject = refl
keyword_is word_of.Default = refl
keyword_is word_of.Underscore = refl
keyword_is word_of.If = refl
keyword_is word_of.Else = refl
keyword_is word_of.Switch = refl
keyword_is word_of.ActionRun = refl
keyword_is word_of.True = refl
keyword_is word_of.False = refl
keyword_is word_of.Error = refl

-- the word that was found has the text
found_text : (text : List ℕ) (words : List Keyword16) (w : Keyword16) → keyword_among text words ≡ Some w → keyword_text16 w ≡ text
found_text text [] w e = absurd (cc)
found_text text (other ∷ words) w e = by (bytes_eq text (keyword_text16 other)) refl e (found_text text words w)
  where
    by : (t : Bool) → bytes_eq text (keyword_text16 other) ≡ t → cond t (Some other) (keyword_among text words) ≡ Some w → (keyword_among text words ≡ Some w → keyword_text16 w ≡ text) → keyword_text16 w ≡ text
    by true f e later = let q : other ≡ w = cc in ap keyword_text16 (sym q) ∙ sym (same_text text (keyword_text16 other) (sym f))
    by false f e later = later e

seen_by : (text : List ℕ) (o : Option Keyword16) → keyword_among text all_keywords16 ≡ o → word16 (seen_as text o) ≡ word kind.Name text
seen_by text None e = refl
seen_by text (Some w) e = ap (word kind.Name) (found_text text all_keywords16 w e)

pub seen_words : (text : List ℕ) → word16 (seen_word text) ≡ word kind.Name text
seen_words text = seen_by text (keyword_among text all_keywords16) refl

pub member_words : (text : List ℕ) → words16 (dot ∷ seen_word text ∷ []) ≡ word16 dot ∷ word kind.Name text ∷ []
member_words text = ap (λ w. word16 dot ∷ w ∷ []) (seen_words text)

-- it is spelt where it is an identifier
spelt_by : (text : List ℕ) (o : Option Keyword16) → keyword_among text all_keywords16 ≡ o → is_spelt_seen (seen_as text o) ≡ true → is_identifier16 text ≡ true
spelt_by text None e h = name_is text h
  where
    name_is : (text : List ℕ) → is_spelt_seen (seen_as text None) ≡ true → is_identifier16 text ≡ true
    name_is text h = (and_parts (is_identifier16 text) _ h).0
spelt_by text (Some w) e h = ap is_identifier16 (sym (found_text text all_keywords16 w e)) ∙ keyword_is w

pub spelt_word : (text : List ℕ) → is_spelt_seen (seen_word text) ≡ true → is_identifier16 text ≡ true
spelt_word text h = spelt_by text (keyword_among text all_keywords16) refl h
