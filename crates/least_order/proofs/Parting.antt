-- How the quotient of a graph is built, and how its nodes get their marks.
use Rattle.std.proofs.Common.{◌≡◌, ℕ, ◌+◌, ◌<◌, ◌≤◌, ◌⊎◌, inl, inr, ⊎_elim, ◌↔◌, Bool, true, false, List, [], Option, Some, None, get_or, set, length, replicate, sym, ap, ◌∙◌, subst, arith}
use Rattle.std.proofs.lemmas.Bool.{cases_eq, cases_lt}
use Rattle.std.specs.Prelude.{is_some}
use Rattle.std.proofs.lemmas.List.{get_or_default, get_or-replicate, get_or_past, get_or-set_same, get_or-set_other, length-replicate, length-set}
use Rattle.digraph.specs.Graphs.{Among, successors, IsEdge}
use Rattle.digraph.specs.Components.{Condensation}
use Rattle.digraph.proofs.Walking.{edge_within}
use Rattle.least_order.specs.internal.Additions.{AddsEdges}
use Rattle.least_order.specs.internal.Listing.{mark_of}
use Rattle.least_order.specs.internal.Quotients.{IsQuotient, LeavesTo, IsListed, AreMarks, AreMarksBelow, HasPair}
use Rattle.least_order.proofs.Underway.{some_is, none_some, not_both}
use Rattle.least_order.proofs.Adding.{adds_none, adds_on}

-- a graph without edges has none
pub no_edge : (n a b : ℕ) → IsEdge (replicate n []) a b → ⊥
no_edge n a b edge =
    ⊎_elim
    (λ lt. subst (λ xs. Among b xs) (get_or-replicate n a [] [] lt) edge)
    (λ ge. subst (λ xs. Among b xs) (get_or_past (replicate n []) a [] (let l = length-replicate {A = List ℕ} n [] in omega (arith, ge, l))) edge)
    (cases_lt a n)

-- an edge from one of the first n nodes leads from component a to another one, b
abbrev pub CrossesFrom : List (List ℕ) → List ℕ → ℕ → ℕ → ℕ → Type 0
CrossesFrom g numbers n a b =
    (a ≡ b → ⊥)
    × ((u : ℕ) × (v : ℕ) × (u < n) × IsEdge g u v × (get_or numbers u 0 ≡ a) × (get_or numbers v 0 ≡ b))

pub crosses_none : (g : List (List ℕ)) (numbers : List ℕ) (base : List (List ℕ)) → AddsEdges base base (CrossesFrom g numbers 0)
crosses_none g numbers base = adds_none base (CrossesFrom g numbers 0) (λ a b crosses. let lt = crosses.1.2 in omega (arith, lt))

crosses_more : (g : List (List ℕ)) (numbers : List ℕ) (n from : ℕ) (targets : List ℕ) → from ≡ get_or numbers n 0 → targets ≡ successors g n → (a b : ℕ) → CrossesFrom g numbers (n + 1) a b ↔ (CrossesFrom g numbers n a b ⊎ LeavesTo numbers from targets a b)
crosses_more g numbers n from targets is are a b = (
  λ crosses.
      let u = crosses.1.0 in
      let v = crosses.1.1 in
      ⊎_elim
      (λ same. inr (
        sym crosses.1.4 ∙ (ap (λ z. get_or numbers z 0) same ∙ sym is),
        crosses.0,
        (crosses.1.1, subst (λ xs. Among crosses.1.1 xs) (sym are) (subst (λ z. IsEdge g z crosses.1.1) same crosses.1.3), crosses.1.5),
      ))
      (λ differs. inl (crosses.0, (crosses.1.0, crosses.1.1, (let lt = crosses.1.2 in omega (arith, lt, differs)), crosses.1.3, crosses.1.4, crosses.1.5)))
      (cases_eq crosses.1.0 n),
  λ either.
      ⊎_elim
      (λ old. (old.0, (old.1.0, old.1.1, (let lt = old.1.2 in omega (arith, lt)), old.1.3, old.1.4, old.1.5)))
      (λ new. (new.1, (n, new.2.0, omega arith, subst (λ xs. Among new.2.0 xs) are new.2.1, sym (new.0 ∙ is), new.2.2)))
      either,
)

pub quotient_more : (g : List (List ℕ)) (numbers : List ℕ) (n from : ℕ) (targets : List ℕ) (base now new : List (List ℕ)) → from ≡ get_or numbers n 0 → targets ≡ successors g n
    → AddsEdges base now (CrossesFrom g numbers n) → AddsEdges now new (LeavesTo numbers from targets) → AddsEdges base new (CrossesFrom g numbers (n + 1))
quotient_more g numbers n from targets base now new is are h k =
    adds_on base now new (CrossesFrom g numbers n) (LeavesTo numbers from targets) (CrossesFrom g numbers (n + 1)) h k (crosses_more g numbers n from targets is are)

pub is_quotient : (g : List (List ℕ)) (c : Condensation) (n : ℕ) (q : List (List ℕ)) → length g ≤ n → length q ≡ c.count → AddsEdges (replicate c.count []) q (CrossesFrom g c.numbers n) → IsQuotient g c q
is_quotient g c n q done each h = record {
  each = each;
  edges = λ a b. (
    λ edge.
        ⊎_elim
        (λ none. absurd (no_edge c.count a b none))
        (λ crosses. (crosses.0, (crosses.1.0, crosses.1.1, crosses.1.3, crosses.1.4, crosses.1.5)))
        ((h a b).0 edge),
    λ crosses.
        (h a b).1 (inr (crosses.0, (crosses.1.0, crosses.1.1, (let lt = edge_within g crosses.1.0 crosses.1.1 crosses.1.2 in omega (arith, lt, done)), crosses.1.2, crosses.1.3, crosses.1.4))),
  );
}

-- the marks of the first n nodes
pub no_marks : (c : Condensation) (listed : List Bool) → AreMarksBelow c listed 0 (replicate c.count None)
no_marks c listed = record {
  each = length-replicate {A = Option ℕ} c.count None;
  mark = λ b x is. none_some (mark_of (replicate c.count None) b) x (none b) is;
  known = λ x lt. absurd (omega (arith, lt));
}
  where
    none : (b : ℕ) → mark_of (replicate c.count None) b ≡ None
    none b =
        ⊎_elim
        (λ lt. get_or-replicate c.count b None None lt)
        (λ ge. get_or_past (replicate c.count None) b None (let l = length-replicate {A = Option ℕ} c.count None in omega (arith, ge, l)))
        (cases_lt b c.count)

-- a node that isn't listed gets no mark
pub none_more : (c : Condensation) (listed : List Bool) (n : ℕ) (marks : List (Option ℕ)) → AreMarksBelow c listed n marks → get_or listed n false ≡ false → AreMarksBelow c listed (n + 1) marks
none_more c listed n marks h un = record {
  each = h.each;
  mark = λ b x is. let m = h.mark b x is in let lt = m.2 in (m.0, m.1, omega (arith, lt));
  known = λ x lt is.
      ⊎_elim
      (λ same. not_both (get_or listed n false) (subst (λ z. IsListed listed z) same is) un)
      (λ differs. h.known x (omega (arith, lt, differs)) is)
      (cases_eq x n);
}

-- a listed node is the mark of a component without a mark
pub mark_more : (c : Condensation) (listed : List Bool) (n b : ℕ) (marks : List (Option ℕ)) → AreMarksBelow c listed n marks → IsListed listed n → b ≡ get_or c.numbers n 0 → b < c.count → mark_of marks b ≡ None → AreMarksBelow c listed (n + 1) (set marks b (Some n))
mark_more c listed n b marks h is at lt none = record {
  each = length-set marks b (Some n) ∙ h.each;
  mark = λ d x e.
      ⊎_elim
      (λ same.
      let own : n ≡ x = some_is n x (sym here ∙ subst (λ z. mark_of (set marks b (Some n)) z ≡ Some x) same e) in
      (subst (λ z. IsListed listed z) own is, subst (λ z. get_or c.numbers z 0 ≡ d) own (sym at ∙ sym same), omega (arith, own)))
      (λ differs. let m = h.mark d x (sym (get_or-set_other marks b d (Some n) None differs) ∙ e) in let less = m.2 in (m.0, m.1, omega (arith, less)))
      (cases_eq d b);
  known = λ x less listed_x.
      ⊎_elim
      (λ same. subst (λ z. mark_of (set marks b (Some n)) (get_or c.numbers z 0) ≡ Some z) (sym same) (subst (λ z. mark_of (set marks b (Some n)) z ≡ Some n) at here))
      (λ differs.
      let was = h.known x (omega (arith, less, differs)) listed_x in
      let apart : get_or c.numbers x 0 ≡ b → ⊥ = λ e. none_some (mark_of marks b) x none (subst (λ z. mark_of marks z ≡ Some x) e was) in
      get_or-set_other marks b (get_or c.numbers x 0) (Some n) None apart ∙ was)
      (cases_eq x n);
}
  where
    here : mark_of (set marks b (Some n)) b ≡ Some n
    here = get_or-set_same marks b (Some n) None (let each = h.each in omega (arith, lt, each))

-- a component with a mark has no second listed node
pub second_mark : (c : Condensation) (listed : List Bool) (n b x : ℕ) (marks : List (Option ℕ)) → AreMarksBelow c listed n marks → IsListed listed n → b ≡ get_or c.numbers n 0 → mark_of marks b ≡ Some x → HasPair c listed
second_mark c listed n b x marks h is at mark =
    let m = h.mark b x mark in
    let less = m.2 in
    (x, n, (λ same. omega (arith, less, same)), m.0, is, m.1 ∙ at)

-- what is read of the marks
pub second_of : (c : Condensation) (listed : List Bool) (n b : ℕ) (marks : List (Option ℕ)) (m : Option ℕ) → AreMarksBelow c listed n marks → IsListed listed n → b ≡ get_or c.numbers n 0 → b < c.count → m ≡ get_or marks b m → true ≡ is_some m → HasPair c listed
second_of c listed n b marks None h is at lt read some = absurd (let bad : true ≡ false = some in cc)
second_of c listed n b marks (Some x) h is at lt read some =
    second_mark c listed n b x marks h is at (sym (read ∙ get_or_default marks b (Some x) None (let each = h.each in omega (arith, lt, each))))

pub first_of : (c : Condensation) (listed : List Bool) (n b : ℕ) (marks : List (Option ℕ)) (m : Option ℕ) → AreMarksBelow c listed n marks → IsListed listed n → b ≡ get_or c.numbers n 0 → b < c.count → m ≡ get_or marks b m → false ≡ is_some m → AreMarksBelow c listed (n + 1) (set marks b (Some n))
first_of c listed n b marks None h is at lt read none = mark_more c listed n b marks h is at lt (sym read)
first_of c listed n b marks (Some x) h is at lt read none = absurd (let bad : false ≡ true = none in cc)

pub are_marks : (c : Condensation) (listed : List Bool) (n : ℕ) (marks : List (Option ℕ)) → AreMarksBelow c listed n marks → length listed ≤ n → AreMarks c listed marks
are_marks c listed n marks h done = record {
  each = h.each;
  mark = λ b x is. let m = h.mark b x is in (m.0, m.1);
  known = λ x is. h.known x (within x is) is;
}
  where
    within : (x : ℕ) → IsListed listed x → x < n
    within x is =
        ⊎_elim
        (λ lt. lt)
        (λ ge. not_both (get_or listed x false) is (get_or_past listed x false (omega (arith, ge, done))))
        (cases_lt x n)
