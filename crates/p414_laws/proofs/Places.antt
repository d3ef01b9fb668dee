-- The place of the first that passes, from the front on.
use Rattle.std.proofs.Common.{◌≡◌, ℕ, suc, ◌+◌, ◌<◌, Bool, true, false, not, cond, nat_lt, List, ◌∷◌, length, position, Some, None, option_map, sym, ap, ◌∙◌, arith, refl}
use Rattle.std.specs.List.{position_or_len}
use Rattle.std.proofs.lemmas.Bool.{lt-ltb, ltb-true}

same_order : (a b c d : ℕ) → ((a < b) → c < d) → ((c < d) → a < b) → nat_lt a b ≡ nat_lt c d
same_order a b c d f g = by_value (nat_lt a b) refl where
  by_value : (t : Bool) → nat_lt a b ≡ t → nat_lt a b ≡ nat_lt c d
  by_value true e = e ∙ sym (lt-ltb _ _ (f (ltb-true _ _ e)))
  by_value false e = e ∙ by_other (nat_lt c d) refl where
    by_other : (u : Bool) → nat_lt c d ≡ u → false ≡ nat_lt c d
    by_other true h = absurd (cc (e, lt-ltb _ _ (g (ltb-true _ _ h))))
    by_other false h = sym h

suc_of : (b : Bool) (n : ℕ) → cond b (Some (suc n)) None ≡ option_map suc (cond b (Some n) None)
suc_of true n = refl
suc_of false n = refl

more : (m : ℕ) → 1 + m ≡ suc m
more m = omega arith

pub position_past : {X : Type 0} (p : X → Bool) (x : X) (xs : List X) → p x ≡ false → position p (x ∷ xs) ≡ option_map suc (position p xs)
position_past p x xs e =
    let n : position_or_len p (x ∷ xs) ≡ suc (position_or_len p xs) = ap (λ b. cond (not b) (1 + position_or_len p xs) 0) e ∙ more (position_or_len p xs) in
    ap (λ k. cond (nat_lt k (suc (length xs))) (Some k) None) n
    ∙ (ap (λ b. cond b (Some (suc (position_or_len p xs))) None) (same_order (suc (position_or_len p xs)) (suc (length xs)) (position_or_len p xs) (length xs) (λ h. omega arith) (λ h. omega arith))
    ∙ suc_of (nat_lt (position_or_len p xs) (length xs)) (position_or_len p xs))

pub position_here : {X : Type 0} (p : X → Bool) (x : X) (xs : List X) → p x ≡ true → position p (x ∷ xs) ≡ Some 0
position_here p x xs e =
    let n : position_or_len p (x ∷ xs) ≡ 0 = ap (λ b. cond (not b) (1 + position_or_len p xs) 0) e in
    ap (λ k. cond (nat_lt k (suc (length xs))) (Some k) None) n
    ∙ ap (λ b. cond b (Some 0) None) (lt-ltb 0 (suc (length xs)) (omega arith))
