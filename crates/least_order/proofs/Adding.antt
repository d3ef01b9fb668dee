-- Laws of graphs to which edges are added.
use Rattle.std.proofs.Common.{◌≡◌, ℕ, ◌+◌, ◌<◌, ◌⊎◌, inl, inr, ⊎_elim, ◌↔◌, List, [], ◌∷◌, ◌++◌, Result, Ok, Err, OnOk, get_or, set, length, take, refl, sym, ◌∙◌, subst}
use Rattle.std.proofs.lemmas.Bool.{cases_eq}
use Rattle.std.proofs.lemmas.List.{get_or-set_same, get_or-set_other, take_more}
use Rattle.digraph.specs.Graphs.{Among, successors, IsEdge}
use Rattle.least_order.specs.internal.Additions.{AddsEdges}
use Rattle.least_order.specs.internal.Quotients.{IsBetween, LeavesTo}
use Rattle.least_order.proofs.Members.{among_append, among_front, among_behind}

-- one number more
pub among_more : (xs : List ℕ) (i v : ℕ) → i < length xs → Among v (take (i + 1) xs) ↔ (Among v (take i xs) ⊎ (v ≡ get_or xs i 0))
among_more xs i v lt = (
  λ among.
      ⊎_elim
      (λ old. inl old)
      (λ new. ⊎_elim (λ e. inr e) (λ none. absurd none) new)
      (among_append (take i xs) (get_or xs i 0 ∷ []) v (subst (λ zs. Among v zs) (take_more xs i 0 lt) among)),
  λ either.
      subst (λ zs. Among v zs) (sym (take_more xs i 0 lt))
      (⊎_elim (λ old. among_front (take i xs) (get_or xs i 0 ∷ []) v old) (λ e. among_behind (take i xs) (get_or xs i 0 ∷ []) v (inl e)) either),
)

-- one edge more
abbrev pub IsOne : ℕ → ℕ → ℕ → ℕ → Type 0
IsOne from to a b = (a ≡ from) × (b ≡ to)

pub one_more : (g : List (List ℕ)) (from to : ℕ) → from < length g → AddsEdges g (set g from (successors g from ++ to ∷ [])) (IsOne from to)
one_more g from to lt a b = (
  λ edge.
      ⊎_elim
      (λ same.
      ⊎_elim
      (λ old. inl (subst (λ z. IsEdge g z b) (sym same) old))
      (λ new. ⊎_elim (λ e. inr (same, e)) (λ none. absurd none) new)
      (among_append (successors g from) (to ∷ []) b (subst (λ zs. Among b zs) (get_or-set_same g from (successors g from ++ to ∷ []) [] lt) (subst (λ z. IsEdge (set g from (successors g from ++ to ∷ [])) z b) same edge))))
      (λ differs. inl (subst (λ zs. Among b zs) (get_or-set_other g from a (successors g from ++ to ∷ []) [] differs) edge))
      (cases_eq a from),
  λ either.
      ⊎_elim
      (λ old.
      ⊎_elim
      (λ same. at a same (among_front (successors g from) (to ∷ []) b (subst (λ z. IsEdge g z b) same old)))
      (λ differs. subst (λ zs. Among b zs) (sym (get_or-set_other g from a (successors g from ++ to ∷ []) [] differs)) old)
      (cases_eq a from))
      (λ new. at a new.0 (among_behind (successors g from) (to ∷ []) b (inl new.1)))
      either,
)
  where
    at : (a : ℕ) → a ≡ from → Among b (successors g from ++ to ∷ []) → IsEdge (set g from (successors g from ++ to ∷ [])) a b
    at a same among =
        subst (λ z. IsEdge (set g from (successors g from ++ to ∷ [])) z b) (sym same)
        (subst (λ zs. Among b zs) (sym (get_or-set_same g from (successors g from ++ to ∷ []) [] lt)) among)

pub adds_none : (g : List (List ℕ)) (None : ℕ → ℕ → Type 0) → ((a b : ℕ) → None a b → ⊥) → AddsEdges g g None
adds_none g None never a b = (λ edge. inl edge, λ either. ⊎_elim (λ old. old) (λ none. absurd (never a b none)) either)

-- further edges, and then further ones
pub adds_on : (old now new : List (List ℕ)) (First Second Both : ℕ → ℕ → Type 0) → AddsEdges old now First → AddsEdges now new Second → ((a b : ℕ) → Both a b ↔ (First a b ⊎ Second a b)) → AddsEdges old new Both
adds_on old now new First Second Both h k both a b = (
  λ edge.
      ⊎_elim
      (λ was. ⊎_elim (λ o. inl o) (λ f. inr ((both a b).1 (inl f))) ((h a b).0 was))
      (λ s. inr ((both a b).1 (inr s)))
      ((k a b).0 edge),
  λ either.
      ⊎_elim
      (λ o. (k a b).1 (inl ((h a b).1 (inl o))))
      (λ some. ⊎_elim (λ f. (k a b).1 (inl ((h a b).1 (inr f)))) (λ s. (k a b).1 (inr s)) ((both a b).0 some))
      either,
)

-- the same edges, said otherwise
pub adds_same : (old new : List (List ℕ)) (One Other : ℕ → ℕ → Type 0) → AddsEdges old new One → ((a b : ℕ) → Other a b ↔ One a b) → AddsEdges old new Other
adds_same old new One Other h same a b = (
  λ edge. ⊎_elim (λ o. inl o) (λ one. inr ((same a b).1 one)) ((h a b).0 edge),
  λ either. ⊎_elim (λ o. (h a b).1 (inl o)) (λ other. (h a b).1 (inr ((same a b).0 other))) either,
)

-- an edge between different components
pub no_between : (g : List (List ℕ)) (from to : ℕ) → from ≡ to → AddsEdges g g (IsBetween from to)
no_between g from to same = adds_none g (IsBetween from to) (λ a b is. is.2 (is.0 ∙ (same ∙ sym is.1)))

pub is_between : {E : Type 0} (r : Result (Unit {0}) E) (g new : List (List ℕ)) (from to : ℕ) → from < length g → (from ≡ to → ⊥) → OnOk r (new ≡ set g from (successors g from ++ to ∷ [])) → OnOk r (AddsEdges g new (IsBetween from to))
is_between (Ok x) g new from to lt differs is =
    subst (λ h. AddsEdges g h (IsBetween from to)) (sym is)
    (adds_same g (set g from (successors g from ++ to ∷ [])) (IsOne from to) (IsBetween from to) (one_more g from to lt)
    (λ a b. (λ between. (between.0, between.1), λ one. (one.0, one.1, λ e. differs (sym one.0 ∙ (e ∙ one.1))))))
is_between (Err e) g new from to lt differs is = tt

-- one of the targets more
pub leaves_more : (numbers : List ℕ) (from : ℕ) (targets : List ℕ) (i to : ℕ) → i < length targets → to ≡ get_or numbers (get_or targets i 0) 0 → (a b : ℕ) → LeavesTo numbers from (take (i + 1) targets) a b ↔ (LeavesTo numbers from (take i targets) a b ⊎ IsBetween from to a b)
leaves_more numbers from targets i to lt is a b = (
  λ leaves.
      ⊎_elim
      (λ old. inl (leaves.0, leaves.1, (leaves.2.0, old, leaves.2.2)))
      (λ e. inr (leaves.0, sym leaves.2.2 ∙ (subst (λ z. get_or numbers leaves.2.0 0 ≡ get_or numbers z 0) e refl ∙ sym is), leaves.1))
      ((among_more targets i leaves.2.0 lt).0 leaves.2.1),
  λ either.
      ⊎_elim
      (λ old. (old.0, old.1, (old.2.0, (among_more targets i old.2.0 lt).1 (inl old.2.1), old.2.2)))
      (λ new. (new.0, new.2, (get_or targets i 0, (among_more targets i (get_or targets i 0) lt).1 (inr refl), sym is ∙ sym new.1)))
      either,
)
