-- Where nothing leads back to itself, no chain has more nodes than there are.
use Rattle.std.proofs.Common.{◌≡◌, ℕ, suc, zero, ◌+◌, ◌<◌, ◌≤◌, Bool, true, false, ◌||◌, List, [], ◌∷◌, ◌++◌, length, Contains, refl, sym, subst, arith, eqb}
use Rattle.std.specs.List.{list_any, IsDistinct, AllByRecursion}
use Rattle.std.proofs.lemmas.Bool.{eqb-true}
use Rattle.std.proofs.lemmas.Map.Steps.{length-le_from_distinct_below}
use Rattle.digraph.specs.Graphs.{Among}
use Rattle.p414_syntax.specs.Walks.{IsWalk, IsCycle}
use Rattle.p414_laws.proofs.Members.{contains}

-- chains from a node have so many nodes at most
abbrev pub IsDeep : (ℕ → List ℕ) → ℕ → ℕ → Type 0
IsDeep next zero a = ⊥
IsDeep next (suc levels) a = (b : ℕ) → Among b (next a) → IsDeep next levels b

module _ (next : ℕ → List ℕ) where
  -- nodes of which each leads to the one before it, the first to this node
  abbrev LeadTo : ℕ → List ℕ → Type 0
  LeadTo a [] = Unit {0}
  LeadTo a (v ∷ rest) = Contains (next v) a × LeadTo v rest

  onward : (xs : List ℕ) (x v a : ℕ) → IsWalk next (x ∷ (xs ++ v ∷ [])) → Contains (next v) a → IsWalk next (x ∷ ((xs ++ v ∷ []) ++ a ∷ []))
  onward [] x v a w e = (w.0, (e, _))
  onward (y ∷ xs) x v a w e = (w.0, onward xs y v a w.1 e)

  abbrev WalksBack : ℕ → ℕ → Type 0
  WalksBack w a = (between : List ℕ) × IsWalk next (w ∷ (between ++ a ∷ []))

  walks_by : (w v a : ℕ) (rest : List ℕ) (b : Bool) → eqb w v ≡ b → Contains (next v) a → (b || list_any (eqb w) rest) ≡ true → (list_any (eqb w) rest ≡ true → WalksBack w v) → WalksBack w a
  walks_by w v a rest true is e t behind = ([], (subst (λ (n : ℕ). Contains (next n) a) (sym (eqb-true w v is)) e, _))
  walks_by w v a rest false is e t behind = let h = behind t in (h.0 ++ v ∷ [], onward h.0 w v a h.1 e)

  walks : (stack : List ℕ) (a w : ℕ) → LeadTo a stack → list_any (eqb w) stack ≡ true → WalksBack w a
  walks [] a w h t = absurd (cc t)
  walks (v ∷ rest) a w h t = walks_by w v a rest (eqb w v) refl h.0 t (walks rest v w h.1)

  module _ (acyclic : (a : ℕ) (between : List ℕ) → IsCycle next a between → ⊥) where
    no_member : (b : Bool) → (b ≡ true → ⊥) → b ≡ false
    no_member true h = absurd (h refl)
    no_member false h = refl

    not_among : (stack : List ℕ) (a : ℕ) → LeadTo a stack → list_any (eqb a) stack ≡ false
    not_among stack a h =
        no_member (list_any (eqb a) stack)
        (λ t. let w = walks stack a a h t in acyclic a w.0 w.1)

    apart : (a : ℕ) (xs : List ℕ) → list_any (eqb a) xs ≡ false → AllByRecursion (λ y. eqb a y ≡ false) xs
    apart a [] e = _
    apart a (x ∷ xs) e = (first (eqb a x) (list_any (eqb a) xs) e, apart a xs (second (eqb a x) (list_any (eqb a) xs) e)) where
      first : (p q : Bool) → (p || q) ≡ false → p ≡ false
      first true q e = e
      first false q e = refl

      second : (p q : Bool) → (p || q) ≡ false → q ≡ false
      second true q e = absurd (cc e)
      second false q e = e

    distinct : (stack : List ℕ) (a : ℕ) → LeadTo a stack → IsDistinct eqb (a ∷ stack)
    unfolding IsDistinct
    distinct [] a h = (_, _)
    distinct (v ∷ rest) a h = (apart a (v ∷ rest) (not_among (v ∷ rest) a h), distinct rest v h.1)

    module _ (count : ℕ) (within : (a b : ℕ) → Among b (next a) → b < count) where
      abbrev AreWithin : List ℕ → Type 0
      AreWithin stack = (q : ℕ) → list_any (eqb q) stack ≡ true → q < count

      within_by : (a q : ℕ) (stack : List ℕ) (b : Bool) → eqb q a ≡ b → a < count → AreWithin stack → (b || list_any (eqb q) stack) ≡ true → q < count
      within_by a q stack true is lt h t = subst (λ (n : ℕ). n < count) (sym (eqb-true q a is)) lt
      within_by a q stack false is lt h t = h q t

      within_more : (a : ℕ) (stack : List ℕ) → a < count → AreWithin stack → AreWithin (a ∷ stack)
      within_more a stack lt h q t = within_by a q stack (eqb q a) refl lt h t

      deep_from : (levels : ℕ) (stack : List ℕ) (a : ℕ) → a < count → LeadTo a stack → AreWithin stack → length stack + levels ≡ count → IsDeep next levels a
      deep_from zero stack a lt leads inside full =
          let most : suc (length stack) ≤ count = length-le_from_distinct_below (a ∷ stack) count (distinct stack a leads) (within_more a stack lt inside) in
          absurd (omega arith)
      deep_from (suc levels) stack a lt leads inside full =
          λ b edge.
          deep_from levels (a ∷ stack) b (within a b edge) (contains b (next a) edge, leads) (within_more a stack lt inside) (omega arith)

      pub is_deep : (a : ℕ) → a < count → IsDeep next count a
      is_deep a lt = deep_from count [] a lt _ (λ q t. absurd (cc t)) (omega arith)
