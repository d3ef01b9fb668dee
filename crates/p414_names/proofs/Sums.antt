-- A sum that is compared with a limit.
use Rattle.std.proofs.Common.{◌≡◌, ℕ, ◌+◌, ◌-◌, ◌%◌, ◌∙◌, ap, ◌<◌, ◌≤◌, List, drop, get_or, length, sum_by, sym, arith}
use Rattle.std.proofs.lemmas.List.Sums.{sum_by-drop_more}

-- the item at this place takes the sum over the limit
pub over_now : {X : Type 0} (f : X → ℕ) (xs : List X) (i : ℕ) (d : X) (total limit : ℕ) → i < length xs → total + sum_by f (drop i xs) ≡ sum_by f xs → total ≤ limit → limit - total < f (get_or xs i d) → limit < sum_by f xs
over_now f xs i d total limit h same within over = let e = sum_by-drop_more f xs i d h in omega arith

-- the item at this place is added
pub add_now : {X : Type 0} (f : X → ℕ) (xs : List X) (i : ℕ) (d : X) (total : ℕ) → i < length xs → total + sum_by f (drop i xs) ≡ sum_by f xs → (total + f (get_or xs i d)) + sum_by f (drop (i + 1) xs) ≡ sum_by f xs
add_now f xs i d total h same = let e = sum_by-drop_more f xs i d h in omega arith

-- the item at this place is added, and only what goes beyond whole octets is kept
rests : (r w s : ℕ) → (((r + w % 8) % 8) + s) % 8 ≡ (r + (w + s)) % 8
rests r w s = omega arith

pub add_rest : {X : Type 0} (f : X → ℕ) (xs : List X) (i : ℕ) (d : X) (rest : ℕ) → i < length xs → (rest + sum_by f (drop i xs)) % 8 ≡ sum_by f xs % 8 → (((rest + f (get_or xs i d) % 8) % 8) + sum_by f (drop (i + 1) xs)) % 8 ≡ sum_by f xs % 8
add_rest f xs i d rest h same =
    rests rest (f (get_or xs i d)) (sum_by f (drop (i + 1) xs)) ∙ (ap (λ n. (rest + n) % 8) (sym (sum_by-drop_more f xs i d h)) ∙ same)
