-- A number is one of a list where it stands at a place of it.
use Rattle.std.proofs.Common.{◌≡◌, ℕ, zero, suc, ◌<◌, inl, inr, List, [], ◌∷◌, get_or, length, take, refl, sym, arith}
use Rattle.digraph.specs.Graphs.{Among}

pub among_take : (xs : List ℕ) (n x : ℕ) → Among x (take n xs) → Among x xs
among_take [] zero x h = h
among_take [] (suc n) x h = h
among_take (y ∷ ys) zero x h = absurd h
among_take (y ∷ ys) (suc n) x (inl e) = inl e
among_take (y ∷ ys) (suc n) x (inr h) = inr (among_take ys n x h)

pub among_place : (xs : List ℕ) (k d : ℕ) → k < length xs → Among (get_or xs k d) xs
among_place [] k d h = absurd (omega arith)
among_place (y ∷ ys) zero d h = inl refl
among_place (y ∷ ys) (suc k) d h = inr (among_place ys k d (omega arith))

pub place_among : (xs : List ℕ) (x d : ℕ) → Among x xs → (k : ℕ) × (k < length xs) × (get_or xs k d ≡ x)
place_among [] x d h = absurd h
place_among (y ∷ ys) x d (inl e) = (0, omega arith, sym e)
place_among (y ∷ ys) x d (inr h) = let r = place_among ys x d h in (suc r.0, omega (arith, r.1), r.2)
