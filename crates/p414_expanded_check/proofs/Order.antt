-- An order of the actions in which each stands behind those that it calls, and that then each comes to something.
use Rattle.std.proofs.Common.{◌≡◌, ℕ, ◌<◌, ◌≤◌, ◌⊎◌, List, [], ◌∷◌, ◌++◌, length, slice_get, slice_index, inl, inr, Some, refl, sym, subst, arith}
use Rattle.digraph.specs.Graphs.{Among, successors, IsEdge, Edge, Onward, OnCycle, IsClosed, Reaches}
use Rattle.digraph.specs.Components.{Condensation, AreComponents, Rises}
use Rattle.digraph.specs.Expansions as calls
use Rattle.p414_syntax.specs.declared.actions.Action.{Action}
use Rattle.p414_syntax.specs.declared.syntax.Decl.{Decl}
use Rattle.p414_syntax.specs.Arguments.{Invocation, invocations_of, actions}
use Rattle.p414_syntax.specs.ActionExpansion.{called_in, CallsExpand}
use Rattle.p414_list_check.proofs.Expanding.{at_row}
use Rattle.p414_action_check.specs.internal.Counted.{action_graph}
use Rattle.p414_action_check.proofs.Expanding.{come_from}
use Rattle.p414_expanded_check.specs.internal.Flow.{Ordered}

module _ (g : List (List ℕ)) (c : Condensation) (are : AreComponents g c) (closed : IsClosed g) (acyclic : (a : ℕ) → OnCycle g a → ⊥) where
  to_cycle : (n k : ℕ) → IsEdge g n k → Reaches g k n → ⊥
  to_cycle n k edge (inl e) = acyclic n (Edge n (subst (IsEdge g n) e edge))
  to_cycle n k edge (inr walk) = acyclic n (Onward n k edge walk)

  in_front : (n k : ℕ) (before rest : List ℕ) → n < length g → ((b : ℕ) → Among b rest → slice_index c.numbers n ≤ slice_index c.numbers b) → IsEdge g n k → Among k before ⊎ Among k (n ∷ rest) → Among k before
  in_front n k before rest within rise edge (inl h) = h
  in_front n k before rest within rise edge (inr (inl e)) = absurd (to_cycle n k edge (inl e))
  in_front n k before rest within rise edge (inr (inr h)) =
      let up : slice_index c.numbers n ≤ slice_index c.numbers k = rise k h in
      let down : slice_index c.numbers k ≤ slice_index c.numbers n = are.falls n k edge in
      let same : slice_index c.numbers n ≡ slice_index c.numbers k = omega arith in
      absurd (to_cycle n k edge ((are.same n k within (closed.within n k edge)).0 same).1)

  moved : (n k : ℕ) (before rest : List ℕ) → Among k before ⊎ Among k (n ∷ rest) → Among k (n ∷ before) ⊎ Among k rest
  moved n k before rest (inl h) = inl (inr h)
  moved n k before rest (inr (inl e)) = inl (inl e)
  moved n k before rest (inr (inr h)) = inr h

  ordered_from : (before rest : List ℕ) → ((k : ℕ) → k < length g → Among k before ⊎ Among k rest) → Rises c.numbers rest → ((n : ℕ) → Among n rest → n < length g) → Ordered g before rest
  ordered_from before [] cover rise within = _
  ordered_from before (n ∷ rest) cover rise within = (
    λ k edge. in_front n k before rest (within n (inl refl)) rise.0 edge (cover k (closed.within n k edge)),
    ordered_from (n ∷ before) rest (λ k h. moved n k before rest (cover k h)) rise.1 (λ m h. within m (inr h)),
  )

  pub ordered : Ordered g [] c.order
  ordered = ordered_from [] c.order (λ k h. inr ((are.nodes k).1 h)) are.rises (λ n h. (are.nodes n).0 h)

-- each of these comes to something

abbrev pub ComesTo : List (List ℕ) → ℕ → Type 0
ComesTo g n = (nodes : List ℕ) × calls.Expands g (successors g n) nodes

all_come : (g : List (List ℕ)) (ns : List ℕ) → ((k : ℕ) → Among k ns → ComesTo g k) → (nodes : List ℕ) × calls.Expands g ns nodes
all_come g [] come = ([], calls.Nothing)
all_come g (n ∷ ns) come =
    let first = come n (inl refl) in
    let rest = all_come g ns (λ k h. come k (inr h)) in
    (n ∷ (first.0 ++ rest.0), calls.Call n ns first.0 rest.0 first.1 rest.1)

each_comes : (g : List (List ℕ)) (before rest : List ℕ) → Ordered g before rest → ((k : ℕ) → Among k before → ComesTo g k) → (k : ℕ) → Among k before ⊎ Among k rest → ComesTo g k
each_comes g before [] order come k (inl h) = come k h
each_comes g before [] order come k (inr h) = absurd h
each_comes g before (n ∷ rest) order come k h = each_comes g (n ∷ before) rest order.1 now k (further h) where
  now : (j : ℕ) → Among j (n ∷ before) → ComesTo g j
  now j (inl e) = subst (ComesTo g) (sym e) (all_come g (successors g n) (λ l edge. come l (order.0 l edge)))
  now j (inr m) = come j m

  further : Among k before ⊎ Among k (n ∷ rest) → Among k (n ∷ before) ⊎ Among k rest
  further (inl m) = inl (inr m)
  further (inr (inl e)) = inl (inl e)
  further (inr (inr m)) = inr m

-- where no action calls itself, each action comes to some primitives
pub some_primitives : (ds : List Decl) (order : List ℕ) → Ordered (action_graph ds) [] order → ((n : ℕ) (a : Action) → slice_get (actions ds) n ≡ Some a → Among n order) → (n : ℕ) (a : Action) → slice_get (actions ds) n ≡ Some a → (all : List Invocation) × CallsExpand ds (invocations_of a) all
some_primitives ds order is cover n a there =
    let h = each_comes (action_graph ds) [] order is (λ k m. absurd m) n (inr (cover n a there)) in
    come_from ds (successors (action_graph ds) n) h.0 h.1 (invocations_of a) (sym (at_row (called_in ds) (actions ds) n a there))
