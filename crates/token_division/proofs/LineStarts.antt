-- Whether nothing but blanks stands before a piece on its line.
use Rattle.std.proofs.Common.{◌≡◌, ℕ, zero, suc, ◌+◌, ◌<◌, ◌≤◌, Bool, true, false, List, [], ◌∷◌, ◌++◌, length, get_or, refl, sym, ap, ◌∙◌, subst, arith, cond, append_assoc, append-nil, codes}
use Rattle.std.specs.Prelude.{not, nat_le, ◌||◌, ◌&&◌}
use Rattle.std.specs.List.{AllPass, suffix_len}
use Rattle.std.proofs.lemmas.Bool.Decides.{nat_tests}
use Rattle.token_division.specs.Octets.{is_blank, is_line_feed, is_on_line}
use Rattle.token_division.specs.Trivia.{IsFirstOnLine}
use Rattle.token_division.proofs.Places.{suffix_push}

-- nothing but blanks stands behind the last line feed
abbrev pub opens : List ℕ → Bool
opens before = nat_le (suffix_len is_on_line before) (suffix_len is_blank before)

pub is_first_on_line : (before : List ℕ) → opens before ≡ true → IsFirstOnLine before
is_first_on_line before e = grind (arith, nat_tests)

pub not_first_on_line : (before : List ℕ) → opens before ≡ false → IsFirstOnLine before → ⊥
not_first_on_line before e l = grind (arith, nat_tests)

step : (feed blank : Bool) (m n : ℕ) → (feed ≡ true → blank ≡ true) → nat_le (cond (not feed) (1 + m) 0) (cond blank (1 + n) 0) ≡ (feed || (nat_le m n && blank))
step true true m n h = grind (arith, nat_tests)
step true false m n h = absurd (let e = h refl in cc)
step false true m n h = by (nat_le m n) refl
  where
    by : (t : Bool) → nat_le m n ≡ t → nat_le (1 + m) (1 + n) ≡ (t && true)
    by true e = grind (arith, nat_tests)
    by false e = grind (arith, nat_tests)
step false false m n h = by (nat_le m n)
  where
    by : (t : Bool) → nat_le (1 + m) 0 ≡ (t && false)
    by true = grind (arith, nat_tests)
    by false = grind (arith, nat_tests)

feeds_are_blank : (octet : ℕ) → is_line_feed octet ≡ true → is_blank octet ≡ true
feeds_are_blank octet e = let ten : octet ≡ 10 = grind (arith, nat_tests) in ap is_blank ten

-- one more octet
opens_push : (before : List ℕ) (octet : ℕ) → opens (before ++ octet ∷ []) ≡ (is_line_feed octet || (opens before && is_blank octet))
opens_push before octet =
    ap (λ k. nat_le k (suffix_len is_blank (before ++ octet ∷ []))) (suffix_push is_on_line before octet)
    ∙ ap (λ k. nat_le (cond (not (is_line_feed octet)) (1 + suffix_len is_on_line before) 0) k) (suffix_push is_blank before octet)
    ∙ step (is_line_feed octet) (is_blank octet) (suffix_len is_on_line before) (suffix_len is_blank before) (feeds_are_blank octet)

with_blank : (feed opened blank : Bool) → blank ≡ true → (feed || (opened && blank)) ≡ (feed || opened)
with_blank true opened blank e = refl
with_blank false true blank e = e
with_blank false false blank e = refl

-- behind a blank
pub opens_blank : (before : List ℕ) (octet : ℕ) → is_blank octet ≡ true → opens (before ++ octet ∷ []) ≡ (is_line_feed octet || opens before)
opens_blank before octet e = opens_push before octet ∙ with_blank (is_line_feed octet) (opens before) (is_blank octet) e

closes : (feed opened blank : Bool) → not feed ≡ true → (opened && blank) ≡ false → (feed || (opened && blank)) ≡ false
closes true opened blank f e = absurd (cc)
closes false opened blank f e = e

and_false : (a b : Bool) → b ≡ false → (a && b) ≡ false
and_false true b e = e
and_false false b e = refl

and_first : (a b : Bool) → a ≡ false → (a && b) ≡ false
and_first true b e = absurd (cc)
and_first false b e = refl

stays_closed : (before piece : List ℕ) → AllPass is_on_line piece → opens before ≡ false → opens (before ++ piece) ≡ false
stays_closed before [] h e = ap opens (append-nil before) ∙ e
stays_closed before (octet ∷ piece) h e =
    ap opens (sym (append_assoc before (octet ∷ []) piece))
    ∙ stays_closed (before ++ octet ∷ []) piece (λ k d l. h (suc k) d (omega arith))
    (opens_push before octet ∙ closes (is_line_feed octet) (opens before) (is_blank octet) (h 0 0 (omega arith)) (and_first (opens before) (is_blank octet) e))

-- behind octets of one line that don't begin with a blank
pub opens_not : (before piece : List ℕ) → 0 < length piece → is_blank (get_or piece 0 0) ≡ false → AllPass is_on_line piece → opens (before ++ piece) ≡ false
opens_not before [] s b h = absurd (omega arith)
opens_not before (octet ∷ piece) s b h =
    ap opens (sym (append_assoc before (octet ∷ []) piece))
    ∙ stays_closed (before ++ octet ∷ []) piece (λ k d l. h (suc k) d (omega arith))
    (opens_push before octet ∙ closes (is_line_feed octet) (opens before) (is_blank octet) (h 0 0 (omega arith)) (and_false (opens before) (is_blank octet) b))

close_on_line : AllPass is_on_line (codes "*/")
close_on_line zero d l = refl
close_on_line (suc zero) d l = refl
close_on_line (suc (suc k)) d l = absurd (omega arith)

-- behind a comment
pub opens_not_behind_comment : (before inside : List ℕ) → opens (before ++ (codes "/*" ++ (inside ++ codes "*/"))) ≡ false
opens_not_behind_comment before inside =
    ap opens (ap (λ xs. before ++ xs) (sym (append_assoc (codes "/*") inside (codes "*/"))) ∙ sym (append_assoc before (codes "/*" ++ inside) (codes "*/")))
    ∙ opens_not (before ++ (codes "/*" ++ inside)) (codes "*/") (omega arith) refl close_on_line
