-- Numbers in decimal digits.
use Rattle.std.proofs.Common.{◌≡◌, nat_eq, ℕ, ◌+◌, ◌*◌, ◌-◌, ◌/◌, ◌%◌, ◌^◌, ◌<◌, ◌≤◌, Bool, true, false, List, [], ◌∷◌, ◌++◌, length, get_or, take, drop, refl, sym, ap, ◌∙◌, arith, cond}
use Rattle.std.specs.Prelude.{nat_le, ◌||◌, ◌&&◌}
use Rattle.std.specs.List.{prefix_len, list_all}
use Rattle.std.specs.Fmt.{decimal}
use Rattle.std.proofs.Math.Nat.{mod-lt, div-add-mod}
use Rattle.std.proofs.lemmas.Fmt.{decimal_by_steps_wide}
use Rattle.std.proofs.lemmas.List.{length-append}
use Rattle.std.proofs.lemmas.List.Sums.{fold-append}
use Rattle.std.proofs.lemmas.List.Folds.{list_all-append}
use Rattle.std.proofs.lemmas.Bool.{and_from, and_parts}
use Rattle.std.proofs.lemmas.Bool.Decides.{nat_tests}
use Rattle.std.proofs.Math.Seq.{take-append_seam}
use Rattle.token_division.specs.declared.literals.Base.{Base}
use Rattle.token_division.specs.declared.literals.Base.TheVariants.{Binary, Decimal, Hexadecimal}
use Rattle.token_division.specs.Octets.{is_decimal, is_word}
use Rattle.token_division.specs.Literals.{with_digit, value_of, digit_value, is_digit, is_digit_or_gap, has_base_prefix, base_of, base_prefix_size, digits_of, literal_value, literal_size}
use Rattle.p416_spelling.proofs.Runs.{or_true, and_false, run_is, all_weaker}

-- decimal digits that stand for a number
pub record IsNumeral (n : ℕ) (ds : List ℕ) : Type 0 where
  pub value : value_of Decimal ds ≡ n
  pub digits : list_all is_decimal ds ≡ true
  pub some : 0 < length ds

no_gap : (d : ℕ) → d < 10 → nat_eq (48 + d) 95 ≡ false
no_gap d l = grind (arith, nat_tests)

no_small : (d : ℕ) → d < 10 → nat_le 97 (48 + d) ≡ false
no_small d l = grind (arith, nat_tests)

no_capital : (d : ℕ) → d < 10 → nat_le 65 (48 + d) ≡ false
no_capital d l = grind (arith, nat_tests)

digit_is : (d : ℕ) → d < 10 → digit_value (48 + d) ≡ d
digit_is d l =
    let same : (48 + d) - 48 ≡ d = omega arith in
    ap (λ t. cond t ((48 + d) - 87) (cond (nat_le 65 (48 + d)) ((48 + d) - 55) ((48 + d) - 48))) (no_small d l)
    ∙ ap (λ t. cond t ((48 + d) - 55) ((48 + d) - 48)) (no_capital d l) ∙ same

with_digit_is : (v d : ℕ) → d < 10 → with_digit Decimal v (48 + d) ≡ 10 * v + d
with_digit_is v d l = ap (λ t. cond t v (10 * v + digit_value (48 + d))) (no_gap d l) ∙ ap (λ x. 10 * v + x) (digit_is d l)

is_digit_code : (d : ℕ) → d < 10 → is_decimal (48 + d) ≡ true
is_digit_code d l = grind (arith, nat_tests)

one_digit : (n : ℕ) → n < 10 → IsNumeral n ((48 + n) ∷ [])
one_digit n l =
    let zero_value : 10 * 0 + n ≡ n = omega arith in
    record { value = with_digit_is 0 n l ∙ zero_value; digits = and_from (is_decimal (48 + n)) true (is_digit_code n l) refl; some = omega arith }

more_digits : (n : ℕ) (ds : List ℕ) → 10 ≤ n → IsNumeral (n / 10) ds → IsNumeral n (ds ++ (48 + n % 10) ∷ [])
more_digits n ds l h =
    let small : n % 10 < 10 = mod-lt n (omega arith) in
    let whole : 10 * (n / 10) + n % 10 ≡ n = omega (arith, div-add-mod n 10) in
    record {
      value = fold-append (with_digit Decimal) 0 ds ((48 + n % 10) ∷ []) ∙ ap (λ v. with_digit Decimal v (48 + n % 10)) h.value ∙ with_digit_is (n / 10) (n % 10) small ∙ whole;
      digits = list_all-append is_decimal ds ((48 + n % 10) ∷ []) ∙ and_from (list_all is_decimal ds) (is_decimal (48 + n % 10) && true) h.digits (and_from (is_decimal (48 + n % 10)) true (is_digit_code (n % 10) small) refl);
      some = omega (arith, length-append ds ((48 + n % 10) ∷ []));
    }

pub numeral : (n : ℕ) → n < 2 ^ 128 → IsNumeral n (decimal n)
numeral n l = decimal_by_steps_wide IsNumeral one_digit more_digits n (omega (arith, l))

-- what stands in no word is none of these letters
not_letter : (k x : ℕ) → is_word x ≡ false → is_word k ≡ true → nat_eq x k ≡ false
not_letter k x e f = go (nat_eq x k) refl
  where
    go : (t : Bool) → nat_eq x k ≡ t → t ≡ false
    go false h = refl
    go true h = let q : x ≡ k = grind (arith, nat_tests) in absurd (let z = sym f ∙ ap is_word (sym q) ∙ e in cc)

-- another octet, of a number's digits or behind them
not_in_digits : (k : ℕ) (ds rest : List ℕ) → is_word k ≡ true → is_decimal k ≡ false → list_all is_decimal ds ≡ true → is_word (get_or rest 0 0) ≡ false → nat_eq (get_or (ds ++ rest) 0 0) k ≡ false
not_in_digits k [] rest f g a e = not_letter k (get_or rest 0 0) e f
not_in_digits k (d ∷ ds) rest f g a e = go (nat_eq d k) refl
  where
    go : (t : Bool) → nat_eq d k ≡ t → t ≡ false
    go false h = refl
    go true h = let q : d ≡ k = grind (arith, nat_tests) in absurd (let z = sym (and_parts (is_decimal d) (list_all is_decimal ds) a).0 ∙ ap is_decimal q ∙ g in cc)

neither : (a b c : Bool) → a ≡ false → b ≡ false → ((a || b) && c) ≡ false
neither false false c e f = refl
neither true b c e f = absurd (cc)
neither false true c e f = absurd (cc)

not_prefixed : (capital small : ℕ) (base : Base) (ds rest : List ℕ) → is_word small ≡ true → is_decimal small ≡ false → is_word capital ≡ true → is_decimal capital ≡ false → 0 < length ds → list_all is_decimal ds ≡ true → is_word (get_or rest 0 0) ≡ false → has_base_prefix capital small base (ds ++ rest) ≡ false
not_prefixed capital small base [] rest f g i j l a e = absurd (omega arith)
not_prefixed capital small base (d ∷ ds) rest f g i j l a e =
    let t = (and_parts (is_decimal d) (list_all is_decimal ds) a).1 in
    let third = is_digit base (get_or ((d ∷ ds) ++ rest) 2 0) in
    and_false (nat_eq d 48) ((nat_eq (get_or (ds ++ rest) 0 0) capital || nat_eq (get_or (ds ++ rest) 0 0) small) && third)
    (neither (nat_eq (get_or (ds ++ rest) 0 0) capital) (nat_eq (get_or (ds ++ rest) 0 0) small) third (not_in_digits capital ds rest i j t e) (not_in_digits small ds rest f g t e))

base_again : (ds rest : List ℕ) → 0 < length ds → list_all is_decimal ds ≡ true → is_word (get_or rest 0 0) ≡ false → base_of (ds ++ rest) ≡ Decimal
base_again ds rest l a e =
    ap (λ t. cond t Hexadecimal (cond (has_base_prefix 66 98 Binary (ds ++ rest)) Binary Decimal)) (not_prefixed 88 120 Hexadecimal ds rest refl refl refl refl l a e)
    ∙ ap (λ t. cond t Binary Decimal) (not_prefixed 66 98 Binary ds rest refl refl refl refl l a e)

gap_bigger : (x : ℕ) → is_decimal x ≡ true → is_digit_or_gap Decimal x ≡ true
gap_bigger x e = or_true (nat_eq x 95) (is_decimal x) e

no_digit : (x : ℕ) → is_word x ≡ false → is_digit_or_gap Decimal x ≡ false
no_digit x e = grind (arith, nat_tests)

run_again : (ds rest : List ℕ) → list_all is_decimal ds ≡ true → is_word (get_or rest 0 0) ≡ false → prefix_len (is_digit_or_gap Decimal) (ds ++ rest) ≡ length ds
run_again ds rest a e = run_is (is_digit_or_gap Decimal) ds rest (all_weaker is_decimal (is_digit_or_gap Decimal) ds gap_bigger a) (no_digit (get_or rest 0 0) e)

pub size_again : (n : ℕ) (ds rest : List ℕ) → IsNumeral n ds → is_word (get_or rest 0 0) ≡ false → literal_size (ds ++ rest) ≡ length ds
size_again n ds rest h e =
    ap (λ b. base_prefix_size b + prefix_len (is_digit_or_gap b) (drop (base_prefix_size b) (ds ++ rest))) (base_again ds rest h.some h.digits e)
    ∙ (let k = run_again ds rest h.digits e in let g : 0 + prefix_len (is_digit_or_gap Decimal) (ds ++ rest) ≡ length ds = omega (arith, k) in g)

pub value_again : (n : ℕ) (ds rest : List ℕ) → IsNumeral n ds → is_word (get_or rest 0 0) ≡ false → literal_value (ds ++ rest) ≡ n
value_again n ds rest h e =
    ap (λ b. value_of b (digits_of b (ds ++ rest))) (base_again ds rest h.some h.digits e)
    ∙ ap (λ m. value_of Decimal (take m (ds ++ rest))) (run_again ds rest h.digits e) ∙ ap (value_of Decimal) (take-append_seam ds rest) ∙ h.value
