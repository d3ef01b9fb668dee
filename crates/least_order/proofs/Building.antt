-- How the graph of labels and nodes is built.
use Rattle.std.proofs.Common.{◌≡◌, ℕ, ◌+◌, ◌<◌, ◌≤◌, ◌^◌, ◌⊎◌, inl, inr, ⊎_elim, ◌↔◌, Bool, true, false, List, [], ◌∷◌, ◌++◌, Option, Some, SomeIff, get_or, set, length, replicate, take, refl, sym, ap, ◌∙◌, subst, arith}
use Rattle.std.proofs.lemmas.Bool.{cases_eq, cases_lt}
use Rattle.std.proofs.lemmas.List.{get_or-replicate, get_or_past, get_or-set_same, get_or-set_other, length-replicate, length-set, take_more}
use Rattle.digraph.specs.Graphs.{Among, successors, AreReached}
use Rattle.digraph.proofs.Walking.{edge_within}
use Rattle.least_order.specs.Labelled.{labels_of}
use Rattle.least_order.specs.internal.Additions.{AddsEdges}
use Rattle.least_order.specs.internal.Quotients.{IsListed}
use Rattle.least_order.specs.internal.Constraints.{Follows, last_of, LeadsOn, MakesEdge, AddsLabels, IsMadeBelow, AreConstraintsBelow, AreConstraints}
use Rattle.least_order.proofs.Underway.{not_both}
use Rattle.least_order.proofs.Adding.{IsOne, among_more, one_more, adds_none, adds_on, adds_same}
use Rattle.least_order.proofs.Parting.{no_edge}

-- a sum that was checked
pub some_sum : (r : Option ℕ) (a b n : ℕ) → SomeIff r (a + b < 2 ^ 64) (a + b) → r ≡ Some n → (a + b < 2 ^ 64) × (a + b ≡ n)
some_sum r a b n s e =
    let Q : Option ℕ → Type 0 = λ o. SomeIff o (a + b < 2 ^ 64) (a + b) in
    let p = subst Q e s in
    (p.0, sym p.1)

-- one label more
follows_split : (node : ℕ) (xs : List ℕ) (z u v : ℕ) → Follows node (xs ++ z ∷ []) u v → Follows node xs u v ⊎ IsOne (last_of node xs) z u v
follows_split node [] z u v (inl f) = inr f
follows_split node [] z u v (inr f) = absurd f
follows_split node (x ∷ xs) z u v (inl f) = inl (inl f)
follows_split node (x ∷ xs) z u v (inr f) = ⊎_elim (λ old. inl (inr old)) (λ new. inr new) (follows_split x xs z u v f)

follows_front : (node : ℕ) (xs : List ℕ) (z u v : ℕ) → Follows node xs u v → Follows node (xs ++ z ∷ []) u v
follows_front node [] z u v f = absurd f
follows_front node (x ∷ xs) z u v (inl f) = inl f
follows_front node (x ∷ xs) z u v (inr f) = inr (follows_front x xs z u v f)

follows_last : (node : ℕ) (xs : List ℕ) (z u v : ℕ) → IsOne (last_of node xs) z u v → Follows node (xs ++ z ∷ []) u v
follows_last node [] z u v f = inl f
follows_last node (x ∷ xs) z u v f = inr (follows_last x xs z u v f)

follows_more : (node : ℕ) (xs : List ℕ) (z : ℕ) → (u v : ℕ) → Follows node (xs ++ z ∷ []) u v ↔ (Follows node xs u v ⊎ IsOne (last_of node xs) z u v)
follows_more node xs z u v = (
  λ f. follows_split node xs z u v f,
  λ either. ⊎_elim (λ old. follows_front node xs z u v old) (λ new. follows_last node xs z u v new) either,
)

last_end : (node : ℕ) (xs : List ℕ) (z : ℕ) → last_of node (xs ++ z ∷ []) ≡ z
last_end node [] z = refl
last_end node (x ∷ xs) z = last_end x xs z

pub last_more : (node : ℕ) (labels : List ℕ) (i : ℕ) → i < length labels → get_or labels i 0 ≡ last_of node (take (i + 1) labels)
last_more node labels i lt = sym (ap (λ xs. last_of node xs) (take_more labels i 0 lt) ∙ last_end node (take i labels) (get_or labels i 0))

-- one node more is listed
pub listed_set : (listed : List Bool) (k x : ℕ) → k < length listed → IsListed (set listed k true) x ↔ (IsListed listed x ⊎ (x ≡ k))
listed_set listed k x lt = (
  λ is. ⊎_elim (λ same. inr same) (λ differs. inl (sym (get_or-set_other listed k x true false differs) ∙ is)) (cases_eq x k),
  λ either.
      ⊎_elim
      (λ same. subst (λ z. IsListed (set listed k true) z) (sym same) (get_or-set_same listed k true false lt))
      (λ differs.
      ⊎_elim
      (λ was. get_or-set_other listed k x true false differs ∙ was)
      (λ same. absurd (differs same))
      either)
      (cases_eq x k),
)

pub labels_none : (node : ℕ) (found : List Bool) (old : List (List ℕ)) → AddsLabels node [] found old found old
labels_none node found old = record {
  each = refl;
  found_each = refl;
  edges = adds_none old (Follows node []) (λ u v f. f);
  labels_are = λ x. (λ is. inl is, λ either. ⊎_elim (λ is. is) (λ none. absurd none) either);
}

pub labels_more : (node : ℕ) (labels : List ℕ) (i last : ℕ) (found : List Bool) (old : List (List ℕ)) (listed : List Bool) (now new : List (List ℕ)) → i < length labels
    → last ≡ last_of node (take i labels) → AddsLabels node (take i labels) found old listed now → last < length now → get_or labels i 0 < length listed
    → new ≡ set now last (successors now last ++ get_or labels i 0 ∷ []) → AddsLabels node (take (i + 1) labels) found old (set listed (get_or labels i 0) true) new
labels_more node labels i last found old listed now new lt is h from to added = record {
  each = ap length added ∙ (length-set now last (successors now last ++ get_or labels i 0 ∷ []) ∙ h.each);
  found_each = length-set listed (get_or labels i 0) true ∙ h.found_each;
  edges =
      subst (λ (xs : List ℕ). AddsEdges old new (Follows node xs)) (sym (take_more labels i 0 lt))
      (subst (λ (q : List (List ℕ)). AddsEdges old q (Follows node (take i labels ++ get_or labels i 0 ∷ []))) (sym added)
      (adds_on old now (set now last (successors now last ++ get_or labels i 0 ∷ [])) (Follows node (take i labels)) (IsOne (last_of node (take i labels)) (get_or labels i 0)) (Follows node (take i labels ++ get_or labels i 0 ∷ []))
      h.edges
      (subst (λ z. AddsEdges now (set now last (successors now last ++ get_or labels i 0 ∷ [])) (IsOne z (get_or labels i 0))) is (one_more now last (get_or labels i 0) from))
      (follows_more node (take i labels) (get_or labels i 0))));
  labels_are = λ x. (
    λ now_is.
        ⊎_elim
        (λ was. ⊎_elim (λ first. inl first) (λ among. inr ((among_more labels i x lt).1 (inl among))) ((h.labels_are x).0 was))
        (λ same. inr ((among_more labels i x lt).1 (inr same)))
        ((listed_set listed (get_or labels i 0) x to).0 now_is),
    λ either.
        (listed_set listed (get_or labels i 0) x to).1
        (⊎_elim
        (λ first. inl ((h.labels_are x).1 (inl first)))
        (λ among. ⊎_elim (λ old_one. inl ((h.labels_are x).1 (inr old_one))) (λ same. inr same) ((among_more labels i x lt).0 among))
        either),
  );
}

-- the last of the labels is one of them, or the node
last_or_label : (node : ℕ) (xs : List ℕ) → (last_of node xs ≡ node) ⊎ Among (last_of node xs) xs
last_or_label node [] = inl refl
last_or_label node (x ∷ xs) = ⊎_elim (λ e. inr (inl e)) (λ i. inr (inr i)) (last_or_label x xs)

pub last_within : (node : ℕ) (xs : List ℕ) (n last : ℕ) → last ≡ last_of node xs → node < n → ((x : ℕ) → Among x xs → x < n) → last < n
last_within node xs n last is lt below =
    subst (λ z. z < n) (sym is)
    (⊎_elim (λ e. subst (λ z. z < n) (sym e) lt) (λ i. below (last_of node xs) i) (last_or_label node xs))

-- one of the targets more
leads_more : (last count : ℕ) (targets : List ℕ) (i : ℕ) → i < length targets → (u v : ℕ) → LeadsOn last count (take (i + 1) targets) u v ↔ (LeadsOn last count (take i targets) u v ⊎ IsOne last (count + get_or targets i 0) u v)
leads_more last count targets i lt u v = (
  λ leads.
      ⊎_elim
      (λ old. inl (leads.0, old, leads.2, leads.3))
      (λ same. inr (leads.2, leads.3 ∙ ap (λ z. count + z) same))
      ((among_more targets i leads.0 lt).0 leads.1),
  λ either.
      ⊎_elim
      (λ old. (old.0, (among_more targets i old.0 lt).1 (inl old.1), old.2, old.3))
      (λ new. (get_or targets i 0, (among_more targets i (get_or targets i 0) lt).1 (inr refl), new.0, new.1))
      either,
)

pub leads_none : (last count : ℕ) (old : List (List ℕ)) → AddsEdges old old (LeadsOn last count [])
leads_none last count old = adds_none old (LeadsOn last count []) (λ u v leads. leads.1)

pub leads_added : (last count : ℕ) (targets : List ℕ) (i : ℕ) (old now new : List (List ℕ)) → i < length targets → last < length now
    → AddsEdges old now (LeadsOn last count (take i targets)) → new ≡ set now last (successors now last ++ (count + get_or targets i 0) ∷ []) → AddsEdges old new (LeadsOn last count (take (i + 1) targets))
leads_added last count targets i old now new lt from h added =
    subst (λ (q : List (List ℕ)). AddsEdges old q (LeadsOn last count (take (i + 1) targets))) (sym added)
    (adds_on old now (set now last (successors now last ++ (count + get_or targets i 0) ∷ [])) (LeadsOn last count (take i targets)) (IsOne last (count + get_or targets i 0)) (LeadsOn last count (take (i + 1) targets))
    h (one_more now last (count + get_or targets i 0) from) (leads_more last count targets i lt))

module _ (g labels : List (List ℕ)) (count : ℕ) (reached : List Bool) where
  -- nothing is made yet
  pub made_none : (found : List Bool) (whole : List (List ℕ)) → found ≡ replicate (count + length g) false → whole ≡ replicate (count + length g) [] → AreConstraintsBelow g labels count reached 0 found whole
  made_none found whole is are =
      subst (λ (q : List (List ℕ)). AreConstraintsBelow g labels count reached 0 found q) (sym are)
      (subst (λ (f : List Bool). AreConstraintsBelow g labels count reached 0 f (replicate (count + length g) [])) (sym is)
      (record {
        each = length-replicate {A = List ℕ} (count + length g) [];
        found_each = length-replicate (count + length g) false;
        edges = adds_none (replicate (count + length g) []) (IsMadeBelow g labels count reached 0) (λ u v made. let lt = made.1 in omega (arith, lt));
        found = λ x. (λ listed. absurd (never x listed), λ found_x. absurd (let lt = found_x.1 in omega (arith, lt)));
      }))
    where
      never : (x : ℕ) → IsListed (replicate (count + length g) false) x → ⊥
      never x listed =
          ⊎_elim
          (λ lt. not_both (get_or (replicate (count + length g) false) x false) listed (get_or-replicate (count + length g) x false false lt))
          (λ ge. not_both (get_or (replicate (count + length g) false) x false) listed (get_or_past (replicate (count + length g) false) x false (let l = length-replicate (count + length g) false in omega (arith, ge, l))))
          (cases_lt x (count + length g))

  -- a node that isn't reached makes nothing
  pub made_pass : (n : ℕ) (found : List Bool) (whole : List (List ℕ)) → AreConstraintsBelow g labels count reached n found whole → get_or reached n false ≡ false → AreConstraintsBelow g labels count reached (n + 1) found whole
  made_pass n found whole h un = record {
    each = h.each;
    found_each = h.found_each;
    edges = adds_same (replicate (count + length g) []) whole (IsMadeBelow g labels count reached n) (IsMadeBelow g labels count reached (n + 1)) h.edges (λ u v. (
      λ made. (made.0, before made.0 made.1 made.2, made.2, made.3),
      λ made. (made.0, (let lt = made.1 in omega (arith, lt)), made.2, made.3),
    ));
    found = λ x. (
      λ listed. let f = (h.found x).0 listed in (f.0, (let lt = f.1 in omega (arith, lt)), f.2, f.3),
      λ f. (h.found x).1 (f.0, before f.0 f.1 f.2, f.2, f.3),
    );
  }
    where
      before : (a : ℕ) → a < n + 1 → IsListed reached a → a < n
      before a lt is =
          ⊎_elim
          (λ same. not_both (get_or reached n false) (subst (λ z. IsListed reached z) same is) un)
          (λ differs. omega (arith, lt, differs))
          (cases_eq a n)

  -- what a node makes
  pub made_one : (n last : ℕ) (names targets : List ℕ) (old now new : List (List ℕ)) → names ≡ labels_of labels n → targets ≡ successors g n → last ≡ last_of (count + n) names
      → AddsEdges old now (Follows (count + n) names) → AddsEdges now new (LeadsOn last count targets) → AddsEdges old new (MakesEdge g labels count n)
  made_one n last names targets old now new are leads is first second =
      adds_on old now new (Follows (count + n) names) (LeadsOn last count targets) (MakesEdge g labels count n) first second (λ u v. (
        λ makes.
            ⊎_elim
            (λ f. inl (subst (λ xs. Follows (count + n) xs u v) (sym are) f))
            (λ on. inr (on.0, subst (λ xs. Among on.0 xs) (sym leads) on.1, on.2 ∙ sym (is ∙ ap (λ xs. last_of (count + n) xs) are), on.3))
            makes,
        λ either.
            ⊎_elim
            (λ f. inl (subst (λ xs. Follows (count + n) xs u v) are f))
            (λ on. inr (on.0, subst (λ xs. Among on.0 xs) leads on.1, on.2 ∙ (is ∙ ap (λ xs. last_of (count + n) xs) are), on.3))
            either,
      ))

  made_more : (n : ℕ) → IsListed reached n → (u v : ℕ) → IsMadeBelow g labels count reached (n + 1) u v ↔ (IsMadeBelow g labels count reached n u v ⊎ MakesEdge g labels count n u v)
  made_more n is u v = (
    λ made.
        ⊎_elim
        (λ same. inr (subst (λ z. MakesEdge g labels count z u v) same made.3))
        (λ differs. inl (made.0, (let lt = made.1 in omega (arith, lt, differs)), made.2, made.3))
        (cases_eq made.0 n),
    λ either.
        ⊎_elim
        (λ old. (old.0, (let lt = old.1 in omega (arith, lt)), old.2, old.3))
        (λ new. (n, omega arith, is, new))
        either,
  )

  -- a reached node makes its edges
  pub made_reached : (n last : ℕ) (names targets : List ℕ) (found listed : List Bool) (old now new : List (List ℕ)) → IsListed reached n → names ≡ labels_of labels n → targets ≡ successors g n
      → AreConstraintsBelow g labels count reached n found old → last ≡ last_of (count + n) names → AddsLabels (count + n) names found old listed now → length new ≡ length now → AddsEdges now new (LeadsOn last count targets)
      → AreConstraintsBelow g labels count reached (n + 1) listed new
  made_reached n last names targets found listed old now new is are leads h last_is added each second = record {
    each = each ∙ (added.each ∙ h.each);
    found_each = added.found_each ∙ h.found_each;
    edges =
        adds_on (replicate (count + length g) []) old new (IsMadeBelow g labels count reached n) (MakesEdge g labels count n) (IsMadeBelow g labels count reached (n + 1))
        h.edges (made_one n last names targets old now new are leads last_is added.edges second) (made_more n is);
    found = λ x. (
      λ listed_x.
          ⊎_elim
          (λ was. let f = (h.found x).0 was in (f.0, (let lt = f.1 in omega (arith, lt)), f.2, f.3))
          (λ among. (n, omega arith, is, subst (λ xs. Among x xs) are among))
          ((added.labels_are x).0 listed_x),
      λ f.
          (added.labels_are x).1
          (⊎_elim
          (λ same. inr (subst (λ xs. Among x xs) (sym are) (subst (λ z. Among x (labels_of labels z)) same f.3)))
          (λ differs. inl ((h.found x).1 (f.0, (let lt = f.1 in omega (arith, lt, differs)), f.2, f.3)))
          (cases_eq f.0 n)),
    );
  }

  -- all nodes are looked at
  pub are_constraints : (start n : ℕ) (found : List Bool) (whole : List (List ℕ)) → AreConstraintsBelow g labels count reached n found whole → length g ≤ n → length labels ≡ length g → length reached ≡ length g → AreReached g start reached → AreConstraints g labels count start found whole
  are_constraints start n found whole h done each all reach = record {
    each = h.each;
    edges = λ u v. (
      λ edge.
          ⊎_elim
          (λ none. absurd (no_edge (count + length g) u v none))
          (λ made. (made.0, (reach.exact made.0 (listed_within made.0 made.2)).0 made.2, made.3))
          ((h.edges u v).0 edge),
      λ made. (h.edges u v).1 (inr (let lt = made_within made.0 u v made.2 in (made.0, omega (arith, lt, done), (reach.exact made.0 lt).1 made.1, made.2))),
    );
    found = λ x. (
      λ listed. let f = (h.found x).0 listed in (f.0, (reach.exact f.0 (listed_within f.0 f.2)).0 f.2, f.3),
      λ f. let lt = label_within f.0 x f.2 in (h.found x).1 (f.0, omega (arith, lt, done), (reach.exact f.0 lt).1 f.1, f.2),
    );
  }
    where
      listed_within : (a : ℕ) → IsListed reached a → a < length g
      listed_within a is =
          ⊎_elim
          (λ lt. lt)
          (λ ge. not_both (get_or reached a false) is (get_or_past reached a false (omega (arith, ge, all))))
          (cases_lt a (length g))

      label_within : (a x : ℕ) → Among x (labels_of labels a) → a < length g
      label_within a x i = let lt = edge_within labels a x i in omega (arith, lt, each)

      some_label : (node : ℕ) (xs : List ℕ) (u v : ℕ) → Follows node xs u v → (x : ℕ) × Among x xs
      some_label node [] u v f = absurd f
      some_label node (x ∷ xs) u v f = (x, inl refl)

      made_within : (a u v : ℕ) → MakesEdge g labels count a u v → a < length g
      made_within a u v makes =
          ⊎_elim
          (λ f. let s = some_label (count + a) (labels_of labels a) u v f in label_within a s.0 s.1)
          (λ on. edge_within g a on.0 on.1)
          makes
