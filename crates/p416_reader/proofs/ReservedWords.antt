-- A text is sought among the reserved words that begin with its first octet alone.
use Rattle.std.proofs.Common.{◌≡◌, ℕ, arith, Bool, true, false, true≢false, List, [], ◌∷◌, is_some, nat_eq, slice_index, bytes_eq, filter, refl, sym, ap, ◌∙◌}
use Rattle.std.proofs.lemmas.Bool.Decides.{nat_tests}
use Rattle.std.proofs.lemmas.Slice.Eq.{bytes_eq-Decides}
use Rattle.p416_syntax.specs.declared.keyword.Keyword16.{Keyword16}
use Rattle.p416_syntax.specs.Keywords.{keyword_text16, is_among16}
use Rattle.p416_syntax.specs.Tokens.{keyword_among}
use Rattle.p416_reader.specs.internal.Words.{begins_with}

same_octet : (n : ℕ) → nat_eq n n ≡ true
same_octet n = grind (arith, nat_tests)

begins : (text : List ℕ) (word : Keyword16) → bytes_eq text (keyword_text16 word) ≡ true → begins_with (slice_index text 0) word ≡ true
begins text word e = ap (λ other. nat_eq (slice_index text 0) (slice_index other 0)) (sym ((bytes_eq-Decides text (keyword_text16 word)).0 e)) ∙ same_octet (slice_index text 0)

pub narrowed : (text : List ℕ) (words : List Keyword16) → keyword_among text (filter (begins_with (slice_index text 0)) words) ≡ keyword_among text words
narrowed text [] = refl
narrowed text (word ∷ words) = by (bytes_eq text (keyword_text16 word)) refl (begins_with (slice_index text 0) word) refl (narrowed text words) where
  by : (same : Bool) → bytes_eq text (keyword_text16 word) ≡ same → (first : Bool) → begins_with (slice_index text 0) word ≡ first
      → keyword_among text (filter (begins_with (slice_index text 0)) words) ≡ keyword_among text words
      → keyword_among text (filter (begins_with (slice_index text 0)) (word ∷ words)) ≡ keyword_among text (word ∷ words)
  by true e true f h = rw f (rw e refl)
  by true e false f h = absurd (true≢false (sym (begins text word e) ∙ f))
  by false e true f h = rw f (rw e h)
  by false e false f h = rw f (rw e h)

-- a text is a reserved word where one is found
pub among : (text : List ℕ) (words : List Keyword16) → is_some (keyword_among text words) ≡ is_among16 text words
among text [] = refl
among text (word ∷ words) = by (bytes_eq text (keyword_text16 word)) refl (among text words) where
  by : (same : Bool) → bytes_eq text (keyword_text16 word) ≡ same → is_some (keyword_among text words) ≡ is_among16 text words → is_some (keyword_among text (word ∷ words)) ≡ is_among16 text (word ∷ words)
  by true e h = rw e refl
  by false e h = rw e h
