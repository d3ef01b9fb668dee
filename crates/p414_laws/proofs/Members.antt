-- Numbers that stand in lists.
use Rattle.std.proofs.Common.{◌≡◌, ℕ, suc, inl, inr, List, [], ◌∷◌, ◌++◌, Option, Some, None, Contains, refl, sym, subst, arith}
use Rattle.std.specs.List.{cons_option}
use Rattle.digraph.specs.Graphs.{Among}

pub contains : (x : ℕ) (xs : List ℕ) → Among x xs → Contains xs x
contains x [] a = absurd a
contains x (y ∷ ys) (inl e) = (0, omega arith, sym e)
contains x (y ∷ ys) (inr a) = let h = contains x ys a in (suc h.0, omega arith, h.2)

pub among_left : (x : ℕ) (xs ys : List ℕ) → Among x xs → Among x (xs ++ ys)
among_left x [] ys h = absurd h
among_left x (y ∷ xs) ys (inl e) = inl e
among_left x (y ∷ xs) ys (inr h) = inr (among_left x xs ys h)

pub among_right : (x : ℕ) (xs ys : List ℕ) → Among x ys → Among x (xs ++ ys)
among_right x [] ys h = h
among_right x (y ∷ xs) ys h = inr (among_right x xs ys h)

pub among_first : (n : ℕ) (o : Option ℕ) (xs : List ℕ) → o ≡ Some n → Among n (cons_option o xs)
among_first n o xs e = subst (λ p. Among n (cons_option p xs)) (sym e) (inl refl)

pub among_rest : (n : ℕ) (o : Option ℕ) (xs : List ℕ) → Among n xs → Among n (cons_option o xs)
among_rest n None xs h = h
among_rest n (Some m) xs h = inr h
