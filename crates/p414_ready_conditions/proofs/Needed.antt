-- The width of a comparison.
use Rattle.std.proofs.Common.{◌≡◌, ℕ, zero, suc, ◌+◌, ◌-◌, ◌^◌, ◌<◌, ◌≤◌, Bool, true, false, cond, List, refl, sym, ap, ◌∙◌, ⊎_elim, subst, arith}
use Rattle.std.specs.Prelude.{max, nat_lt}
use Rattle.std.specs.Int.Count.{count_leading_zeros, leading_of_zero}
use Rattle.std.proofs.Math.Pow.{pow_mono}
use Rattle.std.proofs.lemmas.Bool.{cases_lt}
use Rattle.std.proofs.lemmas.Bool.Decides.{nat_tests}
use Rattle.std.proofs.lemmas.Nat.{leading_top}
use Rattle.std.proofs.lemmas.List.Sums.{fold-append}
use Rattle.p414_syntax.specs.declared.syntax.Decl.{Decl}
use Rattle.p414_syntax.specs.Tree.{Expr, valid, truth, field, number, parenthesized, unary, binary}
use Rattle.p414_syntax.specs.Subtrees.{subexpressions}
use Rattle.p414_sem.specs.Conditions.{bit_length, bit_length_within, operand_width}
use Rattle.p414_ready_conditions.specs.internal.Widths.{wider, widest}

-- how many bits a number needs

lt_is : (a b : ℕ) → a < b → nat_lt a b ≡ true
lt_is a b lt = grind (arith, nat_tests)

ge_is : (a b : ℕ) → b ≤ a → nat_lt a b ≡ false
ge_is a b le = grind (arith, nat_tests)

within_fits : (limit n : ℕ) → n < 2 ^ (suc limit) → bit_length_within (suc limit) n ≡ bit_length_within limit n
within_fits limit n lt =
    ap (λ (b : Bool). cond b (bit_length_within limit n) (suc (suc limit))) (lt_is n (2 ^ (suc limit)) lt)

within_full : (limit n : ℕ) → 2 ^ (suc limit) ≤ n → bit_length_within (suc limit) n ≡ suc (suc limit)
within_full limit n le =
    ap (λ (b : Bool). cond b (bit_length_within limit n) (suc (suc limit))) (ge_is n (2 ^ (suc limit)) le)

small : (limit n : ℕ) → n < 2 → bit_length_within limit n ≡ 1
small zero n lt = refl
small (suc limit) n lt =
    let two : 2 ≤ 2 ^ (suc limit) = pow_mono {i = 1} {j = suc limit} (omega arith) in
    let below : n < 2 ^ (suc limit) = omega (arith, two, lt) in
    within_fits limit n below ∙ small limit n lt

needs : (limit n j : ℕ) → j ≤ limit → 2 ^ j ≤ n → n < 2 ^ (suc j) → bit_length_within limit n ≡ suc j
needs zero n j le low high = let e : j ≡ 0 = omega (arith, le) in ap suc (sym e)
needs (suc limit) n j le low high =
    ⊎_elim
    (λ lt.
    let most : 2 ^ (suc j) ≤ 2 ^ (suc limit) = pow_mono {i = suc j} {j = suc limit} (omega (arith, lt)) in
    let below : n < 2 ^ (suc limit) = omega (arith, most, high) in
    within_fits limit n below ∙ needs limit n j (omega (arith, lt)) low high)
    (λ ge.
    let e : j ≡ suc limit = omega (arith, le, ge) in
    let above : 2 ^ (suc limit) ≤ n = subst (λ k. 2 ^ k ≤ n) e low in
    within_full limit n above ∙ ap suc (sym e))
    (cases_lt j (suc limit))

few_bits : (count j : ℕ) → count + suc j ≡ 128 → j ≤ 127
few_bits count j e = omega (arith, e)

all_bits : (count j : ℕ) → count + suc j ≡ 128 → max (128 - count) 1 ≡ suc j
all_bits count j e = omega (arith, e)

no_bits : (count : ℕ) → count ≡ 128 → max (128 - count) 1 ≡ 1
no_bits count e = omega (arith, e)

pub bits_needed : (n : ℕ) → n < 2 ^ 128 → max (128 - count_leading_zeros 128 n) 1 ≡ bit_length n
bits_needed zero lt =
    no_bits (count_leading_zeros 128 0) (leading_of_zero 128) ∙ sym (small 127 0 (omega arith))
bits_needed (suc n) lt =
    let found = leading_top 128 (suc n) (omega arith) lt in
    all_bits (count_leading_zeros 128 (suc n)) found.0 found.1
    ∙ sym (needs 127 (suc n) found.0 (few_bits (count_leading_zeros 128 (suc n)) found.0 found.1) found.2 found.3)

-- operands

none_wider : (ds : List Decl) (n : ℕ) (a : Expr) → max (max n 0) (operand_width ds a) ≡ max n (operand_width ds a)
none_wider ds n a = omega arith

widest_over : (ds : List Decl) (n : ℕ) (e : Expr) → widest ds n (subexpressions e) ≡ max n (operand_width ds e)
widest_over ds n (valid i) = refl
widest_over ds n (truth b) = refl
widest_over ds n (field r) = refl
widest_over ds n (number l) = refl
widest_over ds n (parenthesized a) = widest_over ds (max n 0) a ∙ none_wider ds n a
widest_over ds n (unary o a) = widest_over ds (max n 0) a ∙ none_wider ds n a
widest_over ds n (binary o a b) =
    fold-append (wider ds) (max n 0) (subexpressions a) (subexpressions b)
    ∙ (ap (λ k. widest ds k (subexpressions b)) (widest_over ds (max n 0) a)
    ∙ (widest_over ds (max (max n 0) (operand_width ds a)) b ∙ joined n (operand_width ds a) (operand_width ds b))) where
      joined : (n a b : ℕ) → max (max (max n 0) a) b ≡ max n (max a b)
      joined n a b = omega arith

pub widest_is : (ds : List Decl) (n : ℕ) (e : Expr) (es : List Expr) (width : ℕ) → es ≡ subexpressions e → width ≡ widest ds n es → width ≡ max n (operand_width ds e)
widest_is ds n e es width same is = is ∙ (ap (widest ds n) same ∙ widest_over ds n e)
