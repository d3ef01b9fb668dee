-- Digits, and the size of a number.
use Rattle.std.proofs.Common.{◌≡◌, ◌⊎◌, inl, inr, ℕ, ◌+◌, ◌<◌, Bool, true, false, nat_eq, List, [], ◌∷◌, get_or, take, drop, length, refl, ap, ◌∙◌, arith, cond}
use Rattle.std.specs.Prelude.{◌||◌, ◌&&◌}
use Rattle.std.proofs.lemmas.Bool.Decides.{nat_tests}
use Rattle.std.proofs.lemmas.List.{get_or-take, get_or-drop, length-take-le}
use Rattle.std.proofs.lemmas.List.Sums.{prefix_len-le-length, prefix_len_passes}
use Rattle.token_division.proofs.Places.{take-add}
use Rattle.std.specs.List.{prefix_len}
use Rattle.std.proofs.lemmas.List.Sums.{fold_more}
use Rattle.token_division.specs.declared.literals.Base.{Base}
use Rattle.token_division.specs.declared.literals.Base.TheVariants.{Binary, Decimal, Hexadecimal}
use Rattle.token_division.specs.Octets.{is_decimal}
use Rattle.token_division.specs.Literals.{with_digit, value_of, base_prefix_size, is_digit, is_digit_or_gap, has_base_prefix, base_of, digits_of, literal_value, literal_size, IsBasePrefix, AreDigits, IsLiteral}

-- one more digit
pub value_more : (base : Base) (digits : List ℕ) (i : ℕ) → i < length digits → value_of base (take (i + 1) digits) ≡ with_digit base (value_of base (take i digits)) (get_or digits i 0)
value_more base digits i l = fold_more (with_digit base) 0 digits i 0 l

or_true : (a b : Bool) → b ≡ true → (a || b) ≡ true
or_true true b e = refl
or_true false b e = e

pub prefix_some : (p : ℕ → Bool) (xs : List ℕ) → p (get_or xs 0 0) ≡ true → p 0 ≡ false → 0 < prefix_len p xs
prefix_some p [] e f = absurd (cc)
prefix_some p (x ∷ xs) e f = let k : prefix_len p (x ∷ xs) ≡ 1 + prefix_len p xs = ap (λ t. cond t (1 + prefix_len p xs) 0) e in omega (arith, k)

-- a number has an octet
pub number_some : (base : Base) (text : List ℕ) → is_decimal (get_or text 0 0) ≡ true → 0 < base_prefix_size base + prefix_len (is_digit_or_gap base) (drop (base_prefix_size base) text)
number_some Binary text e = omega arith
number_some Hexadecimal text e = omega arith
number_some Decimal text e = let h = prefix_some (is_digit_or_gap Decimal) text (or_true (nat_eq (get_or text 0 0) 95) (is_decimal (get_or text 0 0)) e) refl in omega arith

both_left : (a b : Bool) → (a && b) ≡ true → a ≡ true
both_left true b e = refl
both_left false b e = absurd (cc)

both_right : (a b : Bool) → (a && b) ≡ true → b ≡ true
both_right true b e = e
both_right false b e = absurd (cc)

either : (a b : Bool) → (a || b) ≡ true → (a ≡ true) ⊎ (b ≡ true)
either true b e = inl refl
either false b e = inr e

equal : (a b : ℕ) → nat_eq a b ≡ true → a ≡ b
equal a b e = grind (arith, nat_tests)

-- the octets of the prefix of a base
two_octets : (text : List ℕ) (first capital small : ℕ) → 0 < capital → 0 < small → nat_eq (get_or text 0 0) first ≡ true → (nat_eq (get_or text 1 0) capital || nat_eq (get_or text 1 0) small) ≡ true → (take 2 text ≡ first ∷ small ∷ []) ⊎ (take 2 text ≡ first ∷ capital ∷ [])
two_octets [] first capital small c s e f = elim (either (nat_eq 0 capital) (nat_eq 0 small) f) [ inl h ↦ absurd (omega (arith, equal 0 capital h)) | inr h ↦ absurd (omega (arith, equal 0 small h)) ]
two_octets (a ∷ []) first capital small c s e f = elim (either (nat_eq 0 capital) (nat_eq 0 small) f) [ inl h ↦ absurd (omega (arith, equal 0 capital h)) | inr h ↦ absurd (omega (arith, equal 0 small h)) ]
two_octets (a ∷ b ∷ text) first capital small c s e f = elim (either (nat_eq b capital) (nat_eq b small) f) [
  | inl h ↦ inr (ap (λ x. x ∷ b ∷ []) (equal a first e) ∙ ap (λ x. first ∷ x ∷ []) (equal b capital h))
  | inr h ↦ inl (ap (λ x. x ∷ b ∷ []) (equal a first e) ∙ ap (λ x. first ∷ x ∷ []) (equal b small h))
]

-- the digits at the front of octets that begin with one
are_digits : (base : Base) (octets : List ℕ) → is_digit base (get_or octets 0 0) ≡ true → is_digit_or_gap base 0 ≡ false → AreDigits base (take (prefix_len (is_digit_or_gap base) octets) octets)
are_digits base octets e z =
    let size = prefix_len (is_digit_or_gap base) octets in
    let some = prefix_some (is_digit_or_gap base) octets (or_true (nat_eq (get_or octets 0 0) 95) (is_digit base (get_or octets 0 0)) e) z in
    let within = length-take-le size octets (prefix_len-le-length (is_digit_or_gap base) octets) in (
      ap (is_digit base) (get_or-take size octets 0 0 some) ∙ e,
      λ k d l.
          let inside : k < size = omega (arith, within) in
          ap (is_digit_or_gap base) (get_or-take size octets k d inside) ∙ prefix_len_passes (is_digit_or_gap base) octets k d inside,
    )

-- the base is that of the prefix
base_hexadecimal : (x b : Bool) → cond x Hexadecimal (cond b Binary Decimal) ≡ Hexadecimal → x ≡ true
base_hexadecimal true b e = refl
base_hexadecimal false true e = absurd (cc)
base_hexadecimal false false e = absurd (cc)

base_binary : (x b : Bool) → cond x Hexadecimal (cond b Binary Decimal) ≡ Binary → b ≡ true
base_binary true b e = absurd (cc)
base_binary false true e = refl
base_binary false false e = absurd (cc)

third : (base : Base) (text : List ℕ) → is_digit base (get_or text 2 0) ≡ true → is_digit base (get_or (drop 2 text) 0 0) ≡ true
third base text e = ap (is_digit base) (get_or-drop 2 text 0 0) ∙ e

abbrev digits_size : Base → List ℕ → ℕ
digits_size base text = prefix_len (is_digit_or_gap base) (drop (base_prefix_size base) text)

literal_by : (base : Base) (text : List ℕ) → IsBasePrefix base (take (base_prefix_size base) text) → AreDigits base (digits_of base text) → IsLiteral (take (base_prefix_size base + digits_size base text) text) (value_of base (digits_of base text))
literal_by base text p d = record {
  base = base;
  prefix = take (base_prefix_size base) text;
  digits = digits_of base text;
  parts = take-add (base_prefix_size base) (digits_size base text) text;
  has_prefix = p;
  has_digits = d;
  stands_for = refl;
}

prefixed : (base : Base) (capital small : ℕ) (text : List ℕ) → has_base_prefix capital small base text ≡ true → 0 < capital → 0 < small → is_digit_or_gap base 0 ≡ false → ((take 2 text ≡ 48 ∷ small ∷ []) ⊎ (take 2 text ≡ 48 ∷ capital ∷ [])) × AreDigits base (take (prefix_len (is_digit_or_gap base) (drop 2 text)) (drop 2 text))
prefixed base capital small text e c s z =
    let zero_there = nat_eq (get_or text 0 0) 48 in
    let letter = nat_eq (get_or text 1 0) capital || nat_eq (get_or text 1 0) small in
    let digit = is_digit base (get_or text 2 0) in
    let rest = both_right zero_there (letter && digit) e in
    (two_octets text 48 capital small c s (both_left zero_there (letter && digit) e) (both_left letter digit rest), are_digits base (drop 2 text) (third base text (both_right letter digit rest)) z)

-- what is read as a number is one
pub is_literal : (text : List ℕ) → is_decimal (get_or text 0 0) ≡ true → IsLiteral (take (literal_size text) text) (literal_value text)
is_literal text e = by_base (base_of text) refl
  where
    by_base : (base : Base) → base_of text ≡ base → IsLiteral (take (base_prefix_size base + digits_size base text) text) (value_of base (digits_of base text))
    by_base Decimal f = literal_by Decimal text refl (are_digits Decimal text e refl)
    by_base Hexadecimal f =
        let h = prefixed Hexadecimal 88 120 text (base_hexadecimal (has_base_prefix 88 120 Hexadecimal text) (has_base_prefix 66 98 Binary text) f) (omega arith) (omega arith) refl in
        literal_by Hexadecimal text h.0 h.1
    by_base Binary f =
        let h = prefixed Binary 66 98 text (base_binary (has_base_prefix 88 120 Hexadecimal text) (has_base_prefix 66 98 Binary text) f) (omega arith) (omega arith) refl in
        literal_by Binary text h.0 h.1
