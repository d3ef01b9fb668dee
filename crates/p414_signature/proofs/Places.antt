-- The place of a name in a list, from its front.
use Rattle.std.proofs.Common.{◌≡◌, ℕ, suc, ◌+◌, ◌<◌, Bool, true, false, not, cond, nat_lt, List, ◌∷◌, Decides, length, position, Some, None, option_map, refl, sym, ap, ◌∙◌, arith}
use Rattle.std.specs.List.{position_or_len}
use Rattle.std.specs.Str.{bytes_eq}
use Rattle.std.proofs.lemmas.Bool.{lt-ltb, ltb-true}
use Rattle.std.proofs.lemmas.Bool.Decides.{same_from_decides}
use Rattle.std.proofs.lemmas.Slice.Eq.{bytes_eq-Decides}
use Rattle.p414_syntax.specs.Names.{Name}

same_order : (a b c d : ℕ) → ((a < b) → c < d) → ((c < d) → a < b) → nat_lt a b ≡ nat_lt c d
same_order a b c d f g = by_value (nat_lt a b) refl where
  by_value : (t : Bool) → nat_lt a b ≡ t → nat_lt a b ≡ nat_lt c d
  by_value true e = e ∙ sym (lt-ltb _ _ (f (ltb-true _ _ e)))
  by_value false e = e ∙ by_other (nat_lt c d) refl where
    by_other : (u : Bool) → nat_lt c d ≡ u → false ≡ nat_lt c d
    by_other true h = absurd (cc (e, lt-ltb _ _ (g (ltb-true _ _ h))))
    by_other false h = sym h

suc_of : (b : Bool) (n : ℕ) → cond b (Some (suc n)) None ≡ option_map suc (cond b (Some n) None)
suc_of true n = refl
suc_of false n = refl

more : (m : ℕ) → 1 + m ≡ suc m
more m = omega arith

pub past : {X : Type 0} (p : X → Bool) (x : X) (xs : List X) → p x ≡ false → position p (x ∷ xs) ≡ option_map suc (position p xs)
past p x xs e =
    let n : position_or_len p (x ∷ xs) ≡ suc (position_or_len p xs) = ap (λ b. cond (not b) (1 + position_or_len p xs) 0) e ∙ more (position_or_len p xs) in
    ap (λ k. cond (nat_lt k (suc (length xs))) (Some k) None) n
    ∙ (ap (λ b. cond b (Some (suc (position_or_len p xs))) None) (same_order (suc (position_or_len p xs)) (suc (length xs)) (position_or_len p xs) (length xs) (λ h. omega arith) (λ h. omega arith))
    ∙ suc_of (nat_lt (position_or_len p xs) (length xs)) (position_or_len p xs))

pub here : {X : Type 0} (p : X → Bool) (x : X) (xs : List X) → p x ≡ true → position p (x ∷ xs) ≡ Some 0
here p x xs e =
    let n : position_or_len p (x ∷ xs) ≡ 0 = ap (λ b. cond (not b) (1 + position_or_len p xs) 0) e in
    ap (λ k. cond (nat_lt k (suc (length xs))) (Some k) None) n
    ∙ ap (λ b. cond b (Some 0) None) (lt-ltb 0 (suc (length xs)) (omega arith))

-- equal either way round

turned : (b : Bool) (xs ys : Name) → Decides b (ys ≡ xs) → Decides b (xs ≡ ys)
turned b xs ys d = (λ e. sym (d.0 e), λ e. d.1 (sym e))

pub bytes_either : (xs ys : Name) → bytes_eq xs ys ≡ bytes_eq ys xs
bytes_either xs ys =
    same_from_decides (bytes_eq xs ys) (bytes_eq ys xs) (bytes_eq-Decides xs ys) (turned (bytes_eq ys xs) xs ys (bytes_eq-Decides ys xs))
