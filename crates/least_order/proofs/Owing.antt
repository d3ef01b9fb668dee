-- Counting edges that lead to a node.
use Rattle.std.proofs.Common.{◌≡◌, ℕ, zero, suc, ◌+◌, ◌<◌, inl, inr, ⊎_elim, Bool, true, false, List, [], ◌∷◌, ◌++◌, get_or, set, length, take, replicate, refl, sym, ap, ◌∙◌, subst, arith}
use Rattle.std.proofs.lemmas.Bool.{cases_eq, cases_lt}
use Rattle.std.proofs.lemmas.Bool.Decides.{nat_tests}
use Rattle.std.proofs.lemmas.List.{get_or-set_same, get_or-set_other, take_more}
use Rattle.digraph.specs.Graphs.{Among, successors, IsEdge}
use Rattle.least_order.specs.internal.Counts.{same_count, occurs, owing}

pub one_same : (x y : ℕ) → x ≡ y → same_count x y ≡ 1
one_same x y e = grind (arith, nat_tests)

pub one_other : (x y : ℕ) → (x ≡ y → ⊥) → same_count x y ≡ 0
one_other x y e = grind (arith, nat_tests)

pub occurs_since : (x : ℕ) (ys : List ℕ) → Among x ys → 0 < occurs x ys
occurs_since x [] h = absurd h
occurs_since x (y ∷ ys) (inl e) = let one = one_same x y e in omega (arith, one)
occurs_since x (y ∷ ys) (inr h) = let more = occurs_since x ys h in omega (arith, more)

pub among_since : (x : ℕ) (ys : List ℕ) → 0 < occurs x ys → Among x ys
among_since x [] h = absurd (omega arith)
among_since x (y ∷ ys) h =
    ⊎_elim (λ e. inl e) (λ differs. let none = one_other x y differs in inr (among_since x ys (omega (arith, none, h)))) (cases_eq x y)

-- a node's edges are taken
pub owing_less : (g : List (List ℕ)) (taken : List Bool) (a b : ℕ) → a < length g → length taken ≡ length g → get_or taken a false ≡ false → owing g (set taken a true) b + occurs b (successors g a) ≡ owing g taken b
owing_less [] taken a b lt each un = absurd (omega arith)
owing_less (targets ∷ g) [] a b lt each un = absurd (omega arith)
owing_less (targets ∷ g) (true ∷ taken) zero b lt each un = cc
owing_less (targets ∷ g) (false ∷ taken) zero b lt each un = omega arith
owing_less (targets ∷ g) (true ∷ taken) (suc a) b lt each un = owing_less g taken a b (omega (arith, lt)) (omega (arith, each)) un
owing_less (targets ∷ g) (false ∷ taken) (suc a) b lt each un = let more = owing_less g taken a b (omega (arith, lt)) (omega (arith, each)) un in omega (arith, more)

-- where nothing is owed, all edges come from nodes that were taken
pub all_taken : (g : List (List ℕ)) (taken : List Bool) (a b : ℕ) → owing g taken b ≡ 0 → IsEdge g a b → get_or taken a false ≡ true
all_taken [] taken a b none edge = absurd edge
all_taken (targets ∷ g) [] zero b none edge = absurd (let some = occurs_since b targets edge in omega (arith, some, none))
all_taken (targets ∷ g) [] (suc a) b none edge = all_taken g [] a b (omega (arith, none)) edge
all_taken (targets ∷ g) (true ∷ taken) zero b none edge = refl
all_taken (targets ∷ g) (false ∷ taken) zero b none edge = absurd (let some = occurs_since b targets edge in omega (arith, some, none))
all_taken (targets ∷ g) (true ∷ taken) (suc a) b none edge = all_taken g taken a b none edge
all_taken (targets ∷ g) (false ∷ taken) (suc a) b none edge = all_taken g taken a b (omega (arith, none)) edge

-- where something is owed, an edge comes from a node that wasn't taken
pub some_owing : (g : List (List ℕ)) (taken : List Bool) (b : ℕ) → 0 < owing g taken b → (a : ℕ) × (a < length g) × IsEdge g a b × (get_or taken a false ≡ false)
some_owing [] taken b some = absurd (omega (arith, some))
some_owing (targets ∷ g) [] b some =
    ⊎_elim
    (λ here. (0, omega arith, among_since b targets here, refl))
    (λ none. let r = some_owing g [] b (omega (arith, some, none)) in (suc r.0, omega (arith, r.1), r.2, refl))
    (cases_lt 0 (occurs b targets))
some_owing (targets ∷ g) (true ∷ taken) b some = let r = some_owing g taken b some in (suc r.0, omega (arith, r.1), r.2, r.3)
some_owing (targets ∷ g) (false ∷ taken) b some =
    ⊎_elim
    (λ here. (0, omega arith, among_since b targets here, refl))
    (λ none. let r = some_owing g taken b (omega (arith, some, none)) in (suc r.0, omega (arith, r.1), r.2, r.3))
    (cases_lt 0 (occurs b targets))

-- where no node was taken
pub owing_fresh : (g : List (List ℕ)) (n b : ℕ) → owing g (replicate n false) b ≡ owing g [] b
owing_fresh [] n b = refl
owing_fresh (targets ∷ g) zero b = refl
owing_fresh (targets ∷ g) (suc n) b = ap (λ k. occurs b targets + k) (owing_fresh g n b)

occurs_append : (x : ℕ) (xs ys : List ℕ) → occurs x (xs ++ ys) ≡ occurs x xs + occurs x ys
occurs_append x [] ys = omega arith
occurs_append x (y ∷ xs) ys = let more = occurs_append x xs ys in omega (arith, more)

pub occurs_more : (x : ℕ) (ys : List ℕ) (i : ℕ) → i < length ys → occurs x (take (i + 1) ys) ≡ occurs x (take i ys) + same_count x (get_or ys i 0)
occurs_more x ys i lt =
    let more = ap (occurs x) (take_more ys i 0 lt) in
    let both = occurs_append x (take i ys) (get_or ys i 0 ∷ []) in
    omega (arith, more, both)

owing_append : (g : List (List ℕ)) (targets : List ℕ) (b : ℕ) → owing (g ++ targets ∷ []) [] b ≡ owing g [] b + occurs b targets
owing_append [] targets b = omega arith
owing_append (xs ∷ g) targets b = let more = owing_append g targets b in omega (arith, more)

pub owing_more : (g : List (List ℕ)) (i b : ℕ) → i < length g → owing (take (i + 1) g) [] b ≡ owing (take i g) [] b + occurs b (successors g i)
owing_more g i b lt = ap (λ (h : List (List ℕ)). owing h [] b) (take_more g i [] lt) ∙ owing_append (take i g) (successors g i) b

-- one more of some edges is counted
pub counted_more : (old now : List ℕ) (targets : List ℕ) (i b : ℕ) → i < length targets → length now ≡ length old → b < length old → get_or targets i 0 < length old
    → get_or now b 0 ≡ get_or old b 0 + occurs b (take i targets) → (v : ℕ) → v ≡ get_or now (get_or targets i 0) 0 + 1
    → get_or (set now (get_or targets i 0) v) b 0 ≡ get_or old b 0 + occurs b (take (i + 1) targets)
counted_more old now targets i b lt each less within before v is =
    let more = occurs_more b targets i lt in
    ⊎_elim
    (λ same.
    let one = one_same b (get_or targets i 0) same in
    let put = get_or-set_same now (get_or targets i 0) v 0 (omega (arith, within, each)) in
    subst (λ z. get_or (set now (get_or targets i 0) v) z 0 ≡ get_or old b 0 + occurs b (take (i + 1) targets)) (sym same)
    (let at = ap (λ z. get_or now z 0) same in omega (arith, more, one, put, is, before, at)))
    (λ differs.
    let none = one_other b (get_or targets i 0) differs in
    let kept = get_or-set_other now (get_or targets i 0) b v 0 differs in
    omega (arith, more, none, kept, before))
    (cases_eq b (get_or targets i 0))
