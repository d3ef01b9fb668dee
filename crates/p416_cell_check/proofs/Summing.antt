-- One turn of the sum: what is left for the objects behind, or that it isn't enough.
use Rattle.std.proofs.Common.{◌≡◌, ℕ, suc, ◌+◌, ◌-◌, ◌<◌, Bool, true, false, List, [], ◌∷◌, length, get_or, drop, refl, sym, ap, ◌∙◌, arith, add-one, drop-cons}
use Rattle.std.specs.Prelude.{nat_lt}
use Rattle.std.proofs.lemmas.Bool.Decides.{nat_tests}
use Rattle.std.proofs.lemmas.List.Sums.{sum_by-cons}
use Rattle.p416_syntax.specs.Totals.{cell_sum}

sum_from : (xs : List ℕ) (i d : ℕ) → i < length xs → cell_sum (drop i xs) ≡ get_or xs i d + cell_sum (drop (i + 1) xs)
sum_from xs i d lt = rw (add-one, drop-cons xs i d lt) (sum_by-cons (λ n. n) (get_or xs i d) (drop (suc i) xs))

less_left : (left x rest : ℕ) → nat_lt left x ≡ false → nat_lt (left - x) rest ≡ nat_lt left (x + rest)
less_left left x rest enough = grind (arith, nat_tests)

over_left : (left x rest : ℕ) → nat_lt left x ≡ true → nat_lt left (x + rest) ≡ true
over_left left x rest over = grind (arith, nat_tests)

pub within_now : (xs : List ℕ) (i d left : ℕ) (whole : Bool) → i < length xs → nat_lt left (get_or xs i d) ≡ false → nat_lt left (cell_sum (drop i xs)) ≡ whole → nat_lt (left - get_or xs i d) (cell_sum (drop (i + 1) xs)) ≡ whole
within_now xs i d left whole lt enough same =
    less_left left (get_or xs i d) (cell_sum (drop (i + 1) xs)) enough ∙ (ap (nat_lt left) (sym (sum_from xs i d lt)) ∙ same)

pub over_now : (xs : List ℕ) (i d left : ℕ) (whole : Bool) → i < length xs → nat_lt left (get_or xs i d) ≡ true → nat_lt left (cell_sum (drop i xs)) ≡ whole → true ≡ whole
over_now xs i d left whole lt over same =
    sym (over_left left (get_or xs i d) (cell_sum (drop (i + 1) xs)) over) ∙ (ap (nat_lt left) (sym (sum_from xs i d lt)) ∙ same)
