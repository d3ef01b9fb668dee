-- The marks of lists by their numbers.
use Rattle.std.proofs.Common.{◌≡◌, ◌≢◌, ◌⊎◌, inl, inr, eqb, ℕ, zero, suc, ◌+◌, ◌<◌, ◌==◌, true, false, cond, List, [], ◌∷◌, Option, Some, None, unwrap_or, slice_get, length, get_or, ◌≤◌, refl, sym, ap, ◌∙◌, arith, eq-eqb}
use Rattle.std.proofs.lemmas.Option.{slice_get_past}
use Rattle.std.proofs.lemmas.Bool.Decides.{eqb_tells}
use Rattle.agreement_of_meanings.specs.Agrees.{mark_of}
use Rattle.lower_rows.specs.Named.{marked_lists}

-- the mark in a row
abbrev row_mark : Option (Option ℕ) → Option ℕ
row_mark None = None
row_mark (Some m) = m

other : (b j : ℕ) → j ≢ b → (b == j) ≡ false
other b j ne = by (eqb_tells b j) where
  by : ((eqb b j ≡ true) × (b ≡ j)) ⊎ ((eqb b j ≡ false) × (b ≢ j)) → eqb b j ≡ false
  by (inl same) = absurd (ne (sym same.1))
  by (inr apart) = apart.0

none_below : (rows : List (Option ℕ)) (b j : ℕ) → j < b → mark_of (marked_lists b rows) j ≡ None
none_below [] b j lt = refl
none_below (None ∷ rows) b j lt = none_below rows (b + 1) j (omega (arith, lt))
none_below (Some n ∷ rows) b j lt =
    ap (λ c. cond c (Some n) (mark_of (marked_lists (b + 1) rows) j)) (other b j (λ e. omega (arith, lt, e)))
    ∙ none_below rows (b + 1) j (omega (arith, lt))

by_number : (rows : List (Option ℕ)) (b j k : ℕ) → k ≡ b + j → mark_of (marked_lists b rows) k ≡ row_mark (slice_get rows j)
by_number [] b j k e = refl
by_number (None ∷ rows) b zero k e = none_below rows (b + 1) k (omega (arith, e))
by_number (None ∷ rows) b (suc j) k e = by_number rows (b + 1) j k (omega (arith, e))
by_number (Some n ∷ rows) b zero k e = ap (λ c. cond c (Some n) (mark_of (marked_lists (b + 1) rows) k)) (eq-eqb b k (omega (arith, e)))
by_number (Some n ∷ rows) b (suc j) k e =
    ap (λ c. cond c (Some n) (mark_of (marked_lists (b + 1) rows) k)) (other b k (λ f. omega (arith, e, f)))
    ∙ by_number rows (b + 1) j k (omega (arith, e))

get_within : (rows : List (Option ℕ)) (j : ℕ) (m : Option ℕ) → j < length rows → slice_get rows j ≡ Some (get_or rows j m)
get_within [] j m lt = absurd (omega (arith, lt))
get_within (x ∷ rows) zero m lt = refl
get_within (x ∷ rows) (suc j) m lt = get_within rows j m (omega (arith, lt))

pub mark_there : (rows : List (Option ℕ)) (list : ℕ) (m : Option ℕ) → list < length rows → m ≡ get_or rows list m → unwrap_or (mark_of (marked_lists 0 rows) list) 0 ≡ unwrap_or m 0
mark_there rows list m lt e =
    ap (λ (x : Option ℕ). unwrap_or x 0) (by_number rows 0 list list (omega arith))
    ∙ ap (λ (x : Option (Option ℕ)). unwrap_or (row_mark x) 0) (get_within rows list m lt ∙ ap Some (sym e))

pub mark_none : (rows : List (Option ℕ)) (list : ℕ) → length rows ≤ list → unwrap_or (mark_of (marked_lists 0 rows) list) 0 ≡ 0
mark_none rows list le =
    ap (λ (x : Option ℕ). unwrap_or x 0) (by_number rows 0 list list (omega arith))
    ∙ ap (λ (x : Option (Option ℕ)). unwrap_or (row_mark x) 0) (slice_get_past rows list le)
