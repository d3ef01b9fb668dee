-- Two lists, item by item.
use Rattle.std.proofs.Common.{◌≡◌, inl, inr, ℕ, ◌+◌, ◌<◌, List, [], ◌∷◌, ◌++◌, get_or, length, sym, subst, arith}
use Rattle.std.proofs.lemmas.Bool.{cases_lt}
use Rattle.std.proofs.lemmas.List.{get_or_push, get_or_append_left, get_or_read}

-- one more item of each
pub each_more : {X Y : Type 0} (R : X → Y → Type 0) (xs : List X) (ys : List Y) (i : ℕ) (x : X) (y : Y) → length ys ≡ i → i < length xs → x ≡ get_or xs i x → ((k : ℕ) (d : X) (e : Y) → k < i → R (get_or xs k d) (get_or ys k e)) → R x y
    → (k : ℕ) (d : X) (e : Y) → k < i + 1 → R (get_or xs k d) (get_or (ys ++ y ∷ []) k e)
each_more {X} {Y} R xs ys i x y count within is each here k d e lt =
    elim (cases_lt k i) [
      | inl below ↦ subst (λ (v : Y). R (get_or xs k d) v) (sym (get_or_append_left ys (y ∷ []) e k (omega arith))) (each k d e below)
      | inr above ↦
          let same : k ≡ i = omega arith in
          let first : x ≡ get_or xs k d = rw same (get_or_read xs i x within is d) in
          let second : get_or (ys ++ y ∷ []) k e ≡ y = get_or_push ys y e k (omega arith) in
          subst (λ (u : X). R u (get_or (ys ++ y ∷ []) k e)) first (subst (λ (v : Y). R x v) (sym second) here)
    ]
