-- One turn of a listing: a node is taken, and then its edges.
use Rattle.std.proofs.Common.{◌≡◌, ℕ, ◌<◌, inl, inr, ⊎_elim, Bool, true, false, List, [], ◌∷◌, ◌++◌, Option, Some, None, get_or, set, length, refl, sym, ap, ◌∙◌, subst, arith}
use Rattle.std.proofs.lemmas.Bool.{cases_Bool}
use Rattle.std.proofs.lemmas.List.{get_or-set_other, length-append}
use Rattle.digraph.specs.Graphs.{Among, successors, IsEdge, WalkTo, Edge, Onward}
use Rattle.digraph.proofs.Walking.{edge_within, first_edge}
use Rattle.least_order.specs.Orders.{IsLeastOrder}
use Rattle.least_order.specs.internal.Counts.{owing}
use Rattle.least_order.specs.internal.Listing.{Progress, mark_of, IsTaken, IsMark, MarkReaches, IsMarked, work_of}
use Rattle.least_order.proofs.Members.{among_append, among_behind, among_front, precedes_front, precedes_across}
use Rattle.least_order.proofs.Stepping.{least_by_steps}
use Rattle.least_order.proofs.Underway.{WaitsBy, AnyNode, IsOpen, Books, Listed, not_both, none_some, some_is, one_home, take_books, take_gate, take_mark, all_listed}
use Rattle.least_order.proofs.Releasing.{BooksOf}

walk_falls : (g : List (List ℕ)) → ((a b : ℕ) → IsEdge g a b → b < a) → (b a : ℕ) → WalkTo g b a → b < a
walk_falls g falls b a (Edge e edge) = falls a b edge
walk_falls g falls b a (Onward e d edge rest) = let one = falls a d edge in let more = walk_falls g falls b d rest in omega (arith, one, more)

-- what is known of a node that was taken off, before its edges are taken
pub record Taken (g : List (List ℕ)) (marks : List (Option ℕ)) (taken : List Bool) (a : ℕ) (old new : Progress) : Type 0 where
  pub within : a < length g
  pub books : BooksOf g marks (set taken a true) (successors g a) AnyNode new
  pub listed : Listed g marks (set taken a true) new.order
  pub targets : (b : ℕ) → Among b (successors g a) → (b < length g) × (get_or (set taken a true) b false ≡ false)
  pub less : work_of new < work_of old

module _ (g : List (List ℕ)) (marks : List (Option ℕ)) (homes : List ℕ) (h : IsMarked g marks homes) where
  targets_of : (taken : List Bool) (order : List ℕ) (a b : ℕ) → Listed g marks taken order → a < length g → get_or taken a false ≡ false → IsEdge g a b → (b < length g) × (get_or (set taken a true) b false ≡ false)
  targets_of taken order a b l lt un edge =
      let falls = h.falls a b edge in
      let differs : b ≡ a → ⊥ = λ e. omega (arith, falls, e) in
      (omega (arith, falls, lt), get_or-set_other taken a b true false differs ∙ ⊎_elim (λ t. not_both (get_or taken a false) (l.back a b t edge) un) (λ f. f) (cases_Bool (get_or taken b false)))

  nothing_owed : (taken : List Bool) (owed gates ready : List ℕ) (a : ℕ) → Books g marks taken [] AnyNode owed gates ready → a < length g → get_or owed a 0 ≡ 0 → owing g taken a ≡ 0
  nothing_owed taken owed gates ready a books lt none = let o = books.owes a lt in omega (arith, o, none)

  gate_taken : (taken : List Bool) (new : Progress) (a : ℕ) → Books g marks taken [] AnyNode new.owed (new.gates ++ a ∷ []) new.ready → Listed g marks taken new.order → Taken g marks taken a (record new { gates = new.gates ++ a ∷ [] }) new
  gate_taken taken new a books l =
      let o = books.gate a (among_behind new.gates (a ∷ []) a (inl refl)) in
      let lt = o.within in
      record {
        within = o.within;
        books = take_books g marks homes h taken new.owed (new.gates ++ a ∷ []) new.ready new.gates new.ready a books o.within o.untaken
            (λ c differs w. kept (mark_of marks c) c differs w)
            (λ c i. (among_front new.gates (a ∷ []) c i, λ e. books.once a (precedes_across new.gates (a ∷ []) a a (subst (λ z. Among z new.gates) e i) (inl refl))))
            (λ x i. (i, λ e. none_some (mark_of marks a) x o.mark e))
            (λ b p. books.once b (precedes_front new.gates (a ∷ []) b b p))
            books.ascends;
        listed = take_gate g marks homes h taken new.order a l (let each = books.len_taken in omega (arith, lt, each)) (nothing_owed taken new.owed (new.gates ++ a ∷ []) new.ready a books o.within o.none) o.mark;
        targets = λ b i. targets_of taken new.order a b l o.within o.untaken i;
        less = let n = length-append new.gates (a ∷ []) in omega (arith, n);
      }
    where
      kept : (m : Option ℕ) (c : ℕ) → (c ≡ a → ⊥) → WaitsBy m (new.gates ++ a ∷ []) new.ready c → WaitsBy m new.gates new.ready c
      kept None c differs w = ⊎_elim (λ i. i) (λ r. ⊎_elim (λ e. absurd (differs e)) (λ none. absurd none) r) (among_append new.gates (a ∷ []) c w)
      kept (Some x) c differs w = w

  mark_taken : (taken : List Bool) (owed ready order : List ℕ) (x : ℕ) → Books g marks taken [] AnyNode owed [] (x ∷ ready) → Listed g marks taken order
      → Taken g marks taken (get_or homes x 0) (record { owed = owed; gates = []; ready = x ∷ ready; order = order }) (record { owed = owed; gates = []; ready = ready; order = order ++ x ∷ [] })
  mark_taken taken owed ready order x books l =
      let o = books.mark x (inl refl) in
      at o.0 (sym (h.home o.0 x o.1.mark).1) o.1
    where
      at : (a : ℕ) → a ≡ get_or homes x 0 → IsOpen g marks taken owed AnyNode (Some x) a → Taken g marks taken (get_or homes x 0) (record { owed = owed; gates = []; ready = x ∷ ready; order = order }) (record { owed = owed; gates = []; ready = ready; order = order ++ x ∷ [] })
      at a e o =
          subst (λ z. Taken g marks taken z (record { owed = owed; gates = []; ready = x ∷ ready; order = order }) (record { owed = owed; gates = []; ready = ready; order = order ++ x ∷ [] })) e
          (record {
            within = o.within;
            books = take_books g marks homes h taken owed [] (x ∷ ready) [] ready a books o.within o.untaken
                (λ c differs w. kept a (mark_of marks c) c refl o.mark differs w)
                (λ c i. absurd i)
                (λ y i. (inr i, λ same. let eq = some_is x y (sym o.mark ∙ same) in let lt = books.ascends.0 y i in absurd (omega (arith, eq, lt))))
                (λ b p. p)
                books.ascends.1;
            listed = take_mark g marks homes h taken owed ready order a x books l o.within o.untaken (nothing_owed taken owed [] (x ∷ ready) a books o.within o.none) o.mark;
            targets = λ b i. targets_of taken order a b l o.within o.untaken i;
            less = omega arith;
          })
        where
          kept : (a : ℕ) (m : Option ℕ) (c : ℕ) → m ≡ mark_of marks c → mark_of marks a ≡ Some x → (c ≡ a → ⊥) → WaitsBy m [] (x ∷ ready) c → WaitsBy m [] ready c
          kept a None c is mark differs w = w
          kept a (Some y) c is mark differs (inl e) = absurd (differs (one_home g marks homes c a y h (sym is) (mark ∙ ap (λ z. Some z) (sym e))))
          kept a (Some y) c is mark differs (inr i) = i

  pub turned : (taken : List Bool) (a : ℕ) (old new : Progress) → IsTaken homes old new a → BooksOf g marks taken [] AnyNode old → Listed g marks taken old.order → Taken g marks taken a old new
  turned taken a old new (inl e) books l =
      subst (λ (p : Progress). Taken g marks taken a p new) (sym e)
      (gate_taken taken new a (subst (λ (p : Progress). BooksOf g marks taken [] AnyNode p) e books) (subst (λ (p : Progress). Listed g marks taken p.order) e l))
  turned taken a old new (inr t) books l =
      let was : old ≡ record { owed = old.owed; gates = []; ready = t.0 ∷ new.ready; order = old.order } =
      ap (λ (xs : List ℕ). record old { gates = xs }) t.2 ∙ ap (λ (xs : List ℕ). record { owed = old.owed; gates = []; ready = xs; order = old.order }) t.3 in
      subst (λ z. Taken g marks taken z old new) (sym t.1)
      (subst (λ (p : Progress). Taken g marks taken (get_or homes t.0 0) old p) (sym t.4)
      (subst (λ (p : Progress). Taken g marks taken (get_or homes t.0 0) p (record { owed = old.owed; gates = []; ready = new.ready; order = old.order ++ t.0 ∷ [] })) (sym was)
      (mark_taken taken old.owed new.ready old.order t.0 (subst (λ (p : Progress). BooksOf g marks taken [] AnyNode p) was books) l)))

  -- at the end
  pub listed_least : (taken : List Bool) (owed order : List ℕ) → Books g marks taken [] AnyNode owed [] [] → Listed g marks taken order → IsLeastOrder (IsMark g marks) (MarkReaches g marks) order
  listed_least taken owed order books l =
      least_by_steps (IsMark g marks) (MarkReaches g marks) order
      (λ x r. let same = one_home g marks homes r.0 r.1 x h r.2 r.3 in let falls = walk_falls g h.falls r.1 r.0 r.4 in omega (arith, same, falls))
      (λ x y r. let f = first_edge g r.1 r.0 r.4 in (r.0, edge_within g r.0 f.0 f.1, r.2))
      l.steps
      (λ x one. all_listed g marks homes h taken owed order x books l one)
