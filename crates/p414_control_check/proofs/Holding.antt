-- A control calls itself where its node lies on a cycle of the graph of controls.
use Rattle.std.proofs.Common.{◌≡◌, ℕ, suc, zero, ◌<◌, List, [], ◌∷◌, ◌++◌, length, get_or, map, slice_get, inl, inr, Option, Some, None, Contains, refl, sym, ap, ◌∙◌, subst, arith}
use Rattle.std.specs.Prelude.{filter_map, flat_map}
use Rattle.std.specs.Option.{option_map_or}
use Rattle.std.specs.List.{cons_option}
use Rattle.std.proofs.lemmas.List.{length-map}
use Rattle.digraph.specs.Graphs.{Among, successors, IsEdge, WalkTo, Edge, Onward, OnCycle, IsClosed}
use Rattle.digraph.specs.Expansions.{HasCycle}
use Rattle.p414_syntax.specs.declared.syntax.Decl.{Decl}
use Rattle.p414_syntax.specs.Subtrees.{subtrees}
use Rattle.p414_syntax.specs.Views.{ControlTree}
use Rattle.p414_syntax.specs.Names.{Name}
use Rattle.p414_syntax.specs.Walks.{IsWalk}
use Rattle.p414_syntax.specs.Controls.{ControlCallsItself}
use Rattle.p414_syntax.specs.ControlExpansion.{controls, control_number, own_call, calls_in, controls_called_by}
use Rattle.p414_control_check.specs.internal.Expanded.{control_graph}
use Rattle.p414_control_check.proofs.Expanding.{named_within}

-- a number stands in a list

to_among : (x : ℕ) (xs : List ℕ) (k : ℕ) → k < length xs → get_or xs k x ≡ x → Among x xs
to_among x [] k h e = absurd (omega arith)
to_among x (y ∷ ys) zero h e = inl (sym e)
to_among x (y ∷ ys) (suc k) h e = inr (to_among x ys k (omega arith) e)

pub among : (x : ℕ) (xs : List ℕ) → Contains xs x → Among x xs
among x xs (k, h, e) = to_among x xs k h e

pub contains : (x : ℕ) (xs : List ℕ) → Among x xs → Contains xs x
contains x [] a = absurd a
contains x (y ∷ ys) (inl e) = (0, omega arith, sym e)
contains x (y ∷ ys) (inr a) = let h = contains x ys a in (suc h.0, omega arith, h.2)

-- a node's successors are what its control calls

called_there : (ds : List Decl) (cs : List ControlTree) (n : ℕ) → get_or (map (calls_in ds) cs) n [] ≡ option_map_or (calls_in ds) (slice_get cs n) []
called_there ds [] n = refl
called_there ds (c ∷ cs) zero = refl
called_there ds (c ∷ cs) (suc n) = called_there ds cs n

pub called_is : (ds : List Decl) (n : ℕ) → successors (control_graph ds) n ≡ controls_called_by ds n
called_is ds n = called_there ds (controls ds) n

pub edge_to : (ds : List Decl) (a b : ℕ) → Contains (controls_called_by ds a) b → IsEdge (control_graph ds) a b
edge_to ds a b h = subst (Among b) (sym (called_is ds a)) (among b (controls_called_by ds a) h)

pub edge_from : (ds : List Decl) (a b : ℕ) → IsEdge (control_graph ds) a b → Contains (controls_called_by ds a) b
edge_from ds a b h = contains b (controls_called_by ds a) (subst (Among b) (called_is ds a) h)

-- walks

walk_to : (ds : List Decl) (c : ℕ) (between : List ℕ) (a : ℕ) → IsWalk (controls_called_by ds) (a ∷ between ++ c ∷ []) → WalkTo (control_graph ds) c a
walk_to ds c [] a w = Edge a (edge_to ds a c w.0)
walk_to ds c (b ∷ between) a w = Onward a b (edge_to ds a b w.0) (walk_to ds c between b w.1)

walk_from : (ds : List Decl) (c a : ℕ) → WalkTo (control_graph ds) c a → (between : List ℕ) × IsWalk (controls_called_by ds) (a ∷ between ++ c ∷ [])
walk_from ds c a (Edge _ e) = ([], (edge_from ds a c e, _))
walk_from ds c a (Onward _ b e w) = let h = walk_from ds c b w in (b ∷ h.0, (edge_from ds a b e, h.1))

pub calls_itself : (ds : List Decl) → HasCycle (control_graph ds) → ControlCallsItself ds
calls_itself ds (a, cycle) = let h = walk_from ds a a cycle in (a, h.0, h.1)

pub calls_none : (ds : List Decl) → ((a : ℕ) → OnCycle (control_graph ds) a → ⊥) → ControlCallsItself ds → ⊥
calls_none ds acyclic (a, between, cycle) = acyclic a (walk_to ds a between a cycle)

-- each edge leads to a node

number_below : (ds : List Decl) (b : ℕ) (names : List Name) → Among b (filter_map (control_number ds) names) → b < length (controls ds)
number_below ds b [] a = absurd a
number_below ds b (name ∷ names) a = by_first (number_below ds b names) (control_number ds name) refl a where
  by_first : (Among b (filter_map (control_number ds) names) → b < length (controls ds)) → (o : Option ℕ) → control_number ds name ≡ o → Among b (cons_option o (filter_map (control_number ds) names)) → b < length (controls ds)
  by_first more None is h = more h
  by_first more (Some n) is (inl e) = named_within ds name b (is ∙ ap Some (sym e))
  by_first more (Some n) is (inr h) = more h

called_below : (ds : List Decl) (b : ℕ) (o : Option ControlTree) → Among b (option_map_or (calls_in ds) o []) → b < length (controls ds)
called_below ds b None a = absurd a
called_below ds b (Some c) a = number_below ds b (flat_map own_call (subtrees c.body)) a

pub closed : (ds : List Decl) → IsClosed (control_graph ds)
closed ds =
    record {
      within = λ a b edge. let h = called_below ds b (slice_get (controls ds) a) (subst (Among b) (called_is ds a) edge) in
          let same : length (control_graph ds) ≡ length (controls ds) = length-map (controls ds) (calls_in ds) in omega arith;
    }

pub closed_by : (ds : List Decl) (g : List (List ℕ)) → g ≡ control_graph ds → IsClosed g
closed_by ds g e = subst (λ (n : List (List ℕ)). IsClosed n) (sym e) (closed ds)

pub acyclic_by : (ds : List Decl) (g : List (List ℕ)) → g ≡ control_graph ds → (ControlCallsItself ds → ⊥) → (a : ℕ) → OnCycle g a → ⊥
acyclic_by ds g e none a cycle = none (calls_itself ds (a, subst (λ (n : List (List ℕ)). OnCycle n a) e cycle))
