-- Numbers that ascend, and one more at its place.
use Rattle.std.proofs.Common.{◌≡◌, ℕ, ◌<◌, ◌⊎◌, inl, inr, ⊎_elim, List, [], ◌∷◌, refl, sym, subst, arith, Ordering, Less, Equal, Greater}
use Rattle.std.specs.BTreeSet.{insert_key}
use Rattle.std.specs.Ordering.{nat_cmp, match_ordering, MatchOrdering}
use Rattle.std.proofs.lemmas.Cmp.{ranked}
use Rattle.digraph.specs.Graphs.{Among}

pub by_order : (P : List ℕ → Type 0) (k x : ℕ) (a b c : List ℕ) → (k < x → P a) → (k ≡ x → P b) → (x < k → P c) → P (match_ordering (nat_cmp k x) a b c)
by_order P k x a b c less same more = of (nat_cmp k x) (ranked k x (nat_cmp k x) refl)
  where
    of : (o : Ordering) → MatchOrdering o (k < x) (k ≡ x) (x < k) → P (match_ordering o a b c)
    of Less h = less h
    of Equal h = same h
    of Greater h = more h

-- each number is less than all behind it
abbrev pub Ascends : List ℕ → Type 0
Ascends [] = Unit {0}
Ascends (x ∷ xs) = ((y : ℕ) → Among y xs → x < y) × Ascends xs

pub put_members : (xs : List ℕ) (k y : ℕ) → Among y (insert_key nat_cmp xs k) → (y ≡ k) ⊎ Among y xs
put_members [] k y (inl e) = inl e
put_members [] k y (inr h) = inr h
put_members (x ∷ xs) k y h =
    by_order (λ zs. Among y zs → (y ≡ k) ⊎ Among y (x ∷ xs)) k x (k ∷ x ∷ xs) (x ∷ xs) (x ∷ insert_key nat_cmp xs k)
    (λ less i. i)
    (λ same i. inr i)
    (λ more i. ⊎_elim (λ e. inr (inl e)) (λ j. ⊎_elim (λ e. inl e) (λ l. inr (inr l)) (put_members xs k y j)) i)
    h

pub put_new : (xs : List ℕ) (k : ℕ) → Among k (insert_key nat_cmp xs k)
put_new [] k = inl refl
put_new (x ∷ xs) k =
    by_order (λ zs. Among k zs) k x (k ∷ x ∷ xs) (x ∷ xs) (x ∷ insert_key nat_cmp xs k)
    (λ less. inl refl)
    (λ same. inl same)
    (λ more. inr (put_new xs k))

pub put_old : (xs : List ℕ) (k y : ℕ) → Among y xs → Among y (insert_key nat_cmp xs k)
put_old [] k y h = absurd h
put_old (x ∷ xs) k y h =
    by_order (λ zs. Among y zs) k x (k ∷ x ∷ xs) (x ∷ xs) (x ∷ insert_key nat_cmp xs k)
    (λ less. inr h)
    (λ same. h)
    (λ more. ⊎_elim (λ e. inl e) (λ i. inr (put_old xs k y i)) h)

pub put_ascends : (xs : List ℕ) (k : ℕ) → Ascends xs → Ascends (insert_key nat_cmp xs k)
put_ascends [] k h = ((λ y i. absurd i), cc)
put_ascends (x ∷ xs) k h =
    by_order Ascends k x (k ∷ x ∷ xs) (x ∷ xs) (x ∷ insert_key nat_cmp xs k)
    (λ less. ((λ y i. ⊎_elim (λ e. subst (λ z. k < z) (sym e) less) (λ j. let m = h.0 y j in omega (arith, m, less)) i), h))
    (λ same. h)
    (λ more. ((λ y i. ⊎_elim (λ e. subst (λ z. x < z) (sym e) more) (λ j. h.0 y j) (put_members xs k y i)), put_ascends xs k h.1))
