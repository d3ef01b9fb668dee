-- Taking the least that is free, again and again, gives the least order.
use Rattle.std.proofs.Common.{◌≡◌, ℕ, inl, inr, ⊎_elim, List, [], ◌∷◌, ◌++◌, refl, sym, ap, ◌∙◌, subst, arith}
use Rattle.std.proofs.lemmas.Bool.{cases_lt}
use Rattle.std.proofs.lemmas.List.{append_assoc}
use Rattle.digraph.specs.Graphs.{Among}
use Rattle.least_order.specs.Orders.{Precedes, AtMost, IsOrder, IsLeastOrder}
use Rattle.least_order.specs.internal.Steps.{IsFree, IsNext, AreSteps}
use Rattle.least_order.proofs.Members.{among_append, among_front, among_behind, precedes_behind, precedes_across}

module _ (IsOne : ℕ → Type 0) (IsBefore : ℕ → ℕ → Type 0) where
  -- one step more
  pub steps_more : (taken xs : List ℕ) (y : ℕ) → AreSteps IsOne IsBefore taken xs → IsNext IsOne IsBefore (taken ++ xs) y → AreSteps IsOne IsBefore taken (xs ++ y ∷ [])
  steps_more taken [] y h next = (subst (λ zs. IsNext IsOne IsBefore zs y) (append_nil taken) next, cc)
    where
      append_nil : (zs : List ℕ) → zs ++ [] ≡ zs
      append_nil [] = refl
      append_nil (z ∷ zs) = ap (λ ws. z ∷ ws) (append_nil zs)
  steps_more taken (x ∷ xs) y h next =
      (h.0, steps_more (taken ++ x ∷ []) xs y h.1 (subst (λ zs. IsNext IsOne IsBefore zs y) (sym (append_assoc taken (x ∷ []) xs)) next))

  steps_one : (taken xs : List ℕ) (x : ℕ) → AreSteps IsOne IsBefore taken xs → Among x xs → IsOne x
  steps_one taken [] x h i = absurd i
  steps_one taken (y ∷ xs) x h (inl e) = subst IsOne (sym e) h.0.one
  steps_one taken (y ∷ xs) x h (inr i) = steps_one (taken ++ y ∷ []) xs x h.1 i

  steps_fresh : (taken xs : List ℕ) (x : ℕ) → AreSteps IsOne IsBefore taken xs → Among x xs → Among x taken → ⊥
  steps_fresh taken [] x h i j = i
  steps_fresh taken (y ∷ xs) x h (inl e) j = h.0.fresh (subst (λ z. Among z taken) e j)
  steps_fresh taken (y ∷ xs) x h (inr i) j = steps_fresh (taken ++ y ∷ []) xs x h.1 i (among_front taken (y ∷ []) x j)

  steps_once : (taken xs : List ℕ) (x : ℕ) → AreSteps IsOne IsBefore taken xs → Precedes x x xs → ⊥
  steps_once taken [] x h p = p
  steps_once taken (y ∷ xs) x h (inl p) =
      steps_fresh (taken ++ y ∷ []) xs x h.1 p.1 (among_behind taken (y ∷ []) x (inl p.0))
  steps_once taken (y ∷ xs) x h (inr p) = steps_once (taken ++ y ∷ []) xs x h.1 p

  steps_keep : (taken xs : List ℕ) (x y : ℕ) → AreSteps IsOne IsBefore taken xs → IsOne x → IsBefore x y → Precedes y x xs → ⊥
  steps_keep taken [] x y h one b p = p
  steps_keep taken (z ∷ xs) x y h one b (inl p) =
      steps_fresh (taken ++ z ∷ []) xs x h.1 p.1 (among_front taken (z ∷ []) x (h.0.free x one (subst (λ w. IsBefore x w) p.0 b)))
  steps_keep taken (z ∷ xs) x y h one b (inr p) = steps_keep (taken ++ z ∷ []) xs x y h.1 one b p

  -- no order is less, however far both are the same
  steps_least : (taken xs ys : List ℕ) → ((x : ℕ) → IsBefore x x → ⊥) → AreSteps IsOne IsBefore taken xs → IsOrder IsOne IsBefore (taken ++ ys) → AtMost xs ys
  steps_least taken [] ys apart h o = cc
  steps_least taken (x ∷ xs) [] apart h o =
      ⊎_elim (λ i. h.0.fresh i) (λ none. none) (among_append taken [] x ((o.each x).1 h.0.one))
  steps_least taken (x ∷ xs) (y ∷ ys) apart h o =
      let one = (o.each y).0 (among_behind taken (y ∷ ys) y (inl refl)) in
      let fresh : Among y taken → ⊥ = λ i. o.once y (precedes_across taken (y ∷ ys) y y i (inl refl)) in
      let free : IsFree IsOne IsBefore taken y =
      λ z one_z b.
      ⊎_elim
      (λ i. i)
      (λ r. absurd (⊎_elim
      (λ e. apart y (subst (λ w. IsBefore w y) e b))
      (λ i. o.keeps z y b (precedes_behind taken (y ∷ ys) y z (inl (refl, i))))
      r))
      (among_append taken (y ∷ ys) z ((o.each z).1 one_z)) in
      let le = h.0.least y one fresh free in
      ⊎_elim
      (λ less. inl less)
      (λ ge. let same : x ≡ y = omega (arith, le, ge) in
      inr (same, steps_least (taken ++ x ∷ []) xs ys apart h.1 (subst (λ zs. IsOrder IsOne IsBefore zs) (ap (λ w. taken ++ w ∷ ys) (sym same) ∙ sym (append_assoc taken (x ∷ []) ys)) o)))
      (cases_lt x y)

  -- steps that take all are the least order
  pub least_by_steps : (xs : List ℕ) → ((x : ℕ) → IsBefore x x → ⊥) → ((x y : ℕ) → IsBefore x y → IsOne x) → AreSteps IsOne IsBefore [] xs → ((x : ℕ) → IsOne x → Among x xs) → IsLeastOrder IsOne IsBefore xs
  least_by_steps xs apart ones h all =
      record {
        is_order = record {
          each = λ x. (λ i. steps_one [] xs x h i, λ one. all x one);
          once = λ x p. steps_once [] xs x h p;
          keeps = λ x y b p. steps_keep [] xs x y h (ones x y b) b p;
        };
        least = λ other o. steps_least [] xs other apart h o;
      }
