-- Sizes of expanded nodes, in the order of the components.
use Rattle.std.proofs.Common.{◌≡◌, ℕ, zero, suc, ◌+◌, ◌<◌, ◌≤◌, inl, inr, ⊎_elim, List, [], ◌∷◌, ◌++◌, get_or, set, length, take, min, sum_by, refl, sym, ap, ◌∙◌, subst, arith}
use Rattle.std.proofs.lemmas.Bool.{cases_eq, cases_lt}
use Rattle.std.proofs.lemmas.List.{take_all, take_more, get_or-set_same, get_or-set_other}
use Rattle.std.proofs.lemmas.List.Sums.{sum_by-cons, sum_by-append}
use Rattle.digraph.specs.Graphs.{Among, successors, IsEdge, IsClosed, OnCycle}
use Rattle.digraph.specs.Components.{Rises, Condensation, AreComponents}
use Rattle.digraph.specs.Expansions.{Expands, Nothing, Call, size_of, AreSizes}
use Rattle.digraph.proofs.Listing.{among_append}
use Rattle.digraph.proofs.Cycles.{on_cycle}

-- a node of a lesser number stands in front
in_front : (numbers xs : List ℕ) (k b : ℕ) → Rises numbers xs → k < length xs → Among b xs → get_or numbers b 0 < get_or numbers (get_or xs k 0) 0 → Among b (take k xs)
in_front numbers [] k b r lt i less = absurd i
in_front numbers (x ∷ xs) zero b r lt (inl e) less = absurd (let same = ap (λ y. get_or numbers y 0) e in omega (arith, same, less))
in_front numbers (x ∷ xs) zero b r lt (inr i) less = absurd (let le = r.0 b i in omega (arith, le, less))
in_front numbers (x ∷ xs) (suc k) b r lt (inl e) less = inl e
in_front numbers (x ∷ xs) (suc k) b r lt (inr i) less = inr (in_front numbers xs k b r.1 (omega arith) i less)

-- where no node lies on a cycle, what a node leads to stands in front of it
pub comes_before : (g : List (List ℕ)) (c : Condensation) (k b : ℕ) → IsClosed g → AreComponents g c → ((a : ℕ) → OnCycle g a → ⊥) → k < length c.order → IsEdge g (get_or c.order k 0) b → Among b (take k c.order)
comes_before g c k b closed_g h acyclic lt edge =
    let a : ℕ = get_or c.order k 0 in
    let le = h.falls (get_or c.order k 0) b edge in
    in_front c.numbers c.order k b h.rises lt ((h.nodes b).1 (closed_g.within (get_or c.order k 0) b edge))
    (⊎_elim
    (λ less. less)
    (λ ge. let same : get_or c.numbers b 0 ≡ get_or c.numbers (get_or c.order k 0) 0 = omega (arith, le, ge) in absurd (acyclic (get_or c.order k 0) (on_cycle g c (get_or c.order k 0) b closed_g h edge same)))
    (cases_lt (get_or c.numbers b 0) (get_or c.numbers (get_or c.order k 0) 0)))

-- the size of a node is known
abbrev pub IsSized : List (List ℕ) → List ℕ → ℕ → List ℕ → ℕ → Type 0
IsSized g own limit sizes a = (nodes : List ℕ) × Expands g (successors g a) nodes × (get_or sizes a 0 ≡ min limit (size_of own (a ∷ nodes)))

capped_more : (limit k n s t r : ℕ) → n ≡ min limit s → min limit ((k + n) + t) ≡ min limit ((k + n) + r) → min limit (k + (n + t)) ≡ min limit (k + (s + r))
capped_more limit k n s t r e h = omega arith

size_of-call : (own nodes more : List ℕ) (a : ℕ) → size_of own (a ∷ (nodes ++ more)) ≡ size_of own (a ∷ nodes) + size_of own more
size_of-call own nodes more a =
    let x = sum_by-cons (λ n. get_or own n 0) a (nodes ++ more) in
    let y = sum_by-cons (λ n. get_or own n 0) a nodes in
    let z = sum_by-append (λ n. get_or own n 0) nodes more in
    omega (arith, x, y, z)

-- calls whose sizes are known expand to nodes of that size
pub expanded : (g : List (List ℕ)) (own : List ℕ) (limit : ℕ) (sizes xs : List ℕ) → ((b : ℕ) → Among b xs → IsSized g own limit sizes b) → (nodes : List ℕ) × Expands g xs nodes × ((k : ℕ) → min limit (k + sum_by (λ n. get_or sizes n 0) xs) ≡ min limit (k + size_of own nodes))
expanded g own limit sizes [] known = ([], Nothing, λ k. refl)
expanded g own limit sizes (x ∷ xs) known =
    let size = known x (inl refl) in
    let rest = expanded g own limit sizes xs (λ b i. known b (inr i)) in (
      x ∷ (size.0 ++ rest.0),
      Call x xs size.0 rest.0 size.1 rest.1,
      λ k. let sum = sum_by-cons (λ n. get_or sizes n 0) x xs in
          let whole = size_of-call own size.0 rest.0 x in
          rw (sum, whole) (capped_more limit k (get_or sizes x 0) (size_of own (x ∷ size.0)) (sum_by (λ n. get_or sizes n 0) xs) (size_of own rest.0) size.2 (rest.2 (k + get_or sizes x 0))),
    )

pub sized_more : (g : List (List ℕ)) (c : Condensation) (own : List ℕ) (limit : ℕ) (sizes : List ℕ) (k v : ℕ) → IsClosed g → AreComponents g c → ((a : ℕ) → OnCycle g a → ⊥) → k < length c.order → length sizes ≡ length g
    → ((b : ℕ) → Among b (take k c.order) → IsSized g own limit sizes b)
    → v ≡ min limit (get_or own (get_or c.order k 0) 0 + sum_by (λ n. get_or sizes n 0) (successors g (get_or c.order k 0)))
    → (b : ℕ) → Among b (take (k + 1) c.order) → IsSized g own limit (set sizes (get_or c.order k 0) v) b
sized_more g c own limit sizes k v closed_g h acyclic lt each known value b i =
    ⊎_elim
    (λ same.
    let a : ℕ = get_or c.order k 0 in
    let within : get_or c.order k 0 < length sizes = (let n = (h.nodes (get_or c.order k 0)).0 (here (get_or c.order k 0) c.order k refl lt) in omega (arith, n, each)) in
    let calls = expanded g own limit sizes (successors g (get_or c.order k 0)) (λ d j. known d (comes_before g c k d closed_g h acyclic lt j)) in
    subst (λ y. IsSized g own limit (set sizes (get_or c.order k 0) v) y) (sym same) (
      calls.0,
      calls.1,
      get_or-set_same sizes (get_or c.order k 0) v 0 within ∙ (value ∙ (calls.2 (get_or own (get_or c.order k 0) 0) ∙ ap (min limit) (sym (sum_by-cons (λ n. get_or own n 0) (get_or c.order k 0) calls.0)))),
    ))
    (λ differs.
    let old : Among b (take k c.order) = ⊎_elim (λ l. l) (λ r. ⊎_elim (λ e. absurd (differs e)) (λ none. absurd none) r) (among_append b (take k c.order) (get_or c.order k 0 ∷ []) (subst (λ ys. Among b ys) (take_more c.order k 0 lt) i)) in
    let was = known b old in
    (was.0, was.1, get_or-set_other sizes (get_or c.order k 0) b v 0 differs ∙ was.2))
    (cases_eq b (get_or c.order k 0))
  where
    here : (x : ℕ) (xs : List ℕ) (j : ℕ) → x ≡ get_or xs j 0 → j < length xs → Among x xs
    here x [] j e lt = absurd (omega arith)
    here x (y ∷ ys) zero e lt = inl e
    here x (y ∷ ys) (suc j) e lt = inr (here x ys j e (omega arith))

-- what an expansion is made of
abbrev Parts : List (List ℕ) → List ℕ → List ℕ → Type 0
Parts g [] nodes = nodes ≡ []
Parts g (x ∷ rest) nodes = (xs : List ℕ) × (more : List ℕ) × Expands g (successors g x) xs × Expands g rest more × (nodes ≡ x ∷ (xs ++ more))

parts : (g : List (List ℕ)) (calls nodes : List ℕ) → Expands g calls nodes → Parts g calls nodes
parts g calls nodes Nothing = refl
parts g calls nodes (Call x rest xs more e f) = (xs, more, e, f, refl)

pub one_expansion : (g : List (List ℕ)) (calls nodes : List ℕ) → Expands g calls nodes → (others : List ℕ) → Expands g calls others → nodes ≡ others
one_expansion g calls nodes Nothing others f = sym (parts g [] others f)
one_expansion g calls nodes (Call x rest xs more e f) others h =
    let p = parts g (x ∷ rest) others h in
    let a = one_expansion g (successors g x) xs e p.0 p.2 in
    let b = one_expansion g rest more f p.1 p.3 in
    (ap (λ ys. x ∷ (ys ++ more)) a ∙ ap (λ ys. x ∷ (p.0 ++ ys)) b) ∙ sym p.4

pub are_sizes : (g : List (List ℕ)) (c : Condensation) (own : List ℕ) (limit : ℕ) (sizes : List ℕ) (k : ℕ) → AreComponents g c → ((a : ℕ) → OnCycle g a → ⊥) → length c.order ≤ k → length sizes ≡ length g
    → ((b : ℕ) → Among b (take k c.order) → IsSized g own limit sizes b) → AreSizes g own limit sizes
are_sizes g c own limit sizes k h acyclic le each known =
    let all : (a : ℕ) → a < length g → IsSized g own limit sizes a =
    λ a lt. known a (subst (λ ys. Among a ys) (sym (take_all k c.order le)) ((h.nodes a).1 lt)) in
    record {
      acyclic = acyclic;
      each = each;
      expands = λ a lt. let s = all a lt in (s.0, s.1);
      size = λ a nodes lt e. let s = all a lt in s.2 ∙ ap (λ ys. min limit (size_of own (a ∷ ys))) (one_expansion g (successors g a) s.0 s.1 nodes e);
    }
