-- An action calls itself where its node lies on a cycle of the graph of actions.
use Rattle.std.proofs.Common.{◌≡◌, ℕ, suc, zero, ◌<◌, List, [], ◌∷◌, ◌++◌, length, get_or, map, slice_get, inl, inr, Option, Some, None, Contains, refl, sym, ap, ◌∙◌, subst, arith}
use Rattle.std.specs.Option.{option_map_or}
use Rattle.std.specs.List.{cons_option}
use Rattle.std.proofs.lemmas.List.{length-map}
use Rattle.digraph.specs.Graphs.{Among, successors, IsEdge, WalkTo, Edge, Onward, OnCycle, IsClosed}
use Rattle.digraph.specs.Expansions.{HasCycle}
use Rattle.p414_syntax.specs.declared.actions.Action.{Action}
use Rattle.p414_syntax.specs.declared.syntax.Decl.{Decl}
use Rattle.p414_syntax.specs.Walks.{IsWalk}
use Rattle.p414_syntax.specs.Arguments.{Invocation, invocations_of, actions, action_number}
use Rattle.p414_syntax.specs.ActionExpansion.{called_in, actions_called_by}
use Rattle.p414_syntax.specs.Actions.{ActionCallsItself}
use Rattle.p414_list_check.proofs.Holding.{among, contains}
use Rattle.p414_action_check.specs.internal.Counted.{action_graph}
use Rattle.p414_action_check.proofs.Numbers.{named_within}
use Rattle.p414_action_check.proofs.Expanding.{called}

-- a node's successors are what its action calls

called_there : (ds : List Decl) (bodies : List Action) (n : ℕ) → get_or (map (called_in ds) bodies) n [] ≡ option_map_or (called_in ds) (slice_get bodies n) []
called_there ds [] n = refl
called_there ds (a ∷ bodies) zero = refl
called_there ds (a ∷ bodies) (suc n) = called_there ds bodies n

called_is : (ds : List Decl) (n : ℕ) → successors (action_graph ds) n ≡ actions_called_by ds n
called_is ds n = called_there ds (actions ds) n

edge_to : (ds : List Decl) (a b : ℕ) → Contains (actions_called_by ds a) b → IsEdge (action_graph ds) a b
edge_to ds a b h = subst (Among b) (sym (called_is ds a)) (among b (actions_called_by ds a) h)

edge_from : (ds : List Decl) (a b : ℕ) → IsEdge (action_graph ds) a b → Contains (actions_called_by ds a) b
edge_from ds a b h = contains b (actions_called_by ds a) (subst (Among b) (called_is ds a) h)

-- walks

walk_to : (ds : List Decl) (c : ℕ) (between : List ℕ) (a : ℕ) → IsWalk (actions_called_by ds) (a ∷ between ++ c ∷ []) → WalkTo (action_graph ds) c a
walk_to ds c [] a w = Edge a (edge_to ds a c w.0)
walk_to ds c (b ∷ between) a w = Onward a b (edge_to ds a b w.0) (walk_to ds c between b w.1)

walk_from : (ds : List Decl) (c a : ℕ) → WalkTo (action_graph ds) c a → (between : List ℕ) × IsWalk (actions_called_by ds) (a ∷ between ++ c ∷ [])
walk_from ds c a (Edge _ e) = ([], (edge_from ds a c e, _))
walk_from ds c a (Onward _ b e w) = let h = walk_from ds c b w in (b ∷ h.0, (edge_from ds a b e, h.1))

pub calls_itself : (ds : List Decl) → HasCycle (action_graph ds) → ActionCallsItself ds
calls_itself ds (a, cycle) = let h = walk_from ds a a cycle in (a, h.0, h.1)

pub calls_none : (ds : List Decl) → ((a : ℕ) → OnCycle (action_graph ds) a → ⊥) → ActionCallsItself ds → ⊥
calls_none ds acyclic (a, between, cycle) = acyclic a (walk_to ds a between a cycle)

-- each edge leads to a node

callee_below : (ds : List Decl) (b : ℕ) (is : List Invocation) → Among b (called ds is) → b < length (actions ds)
callee_below ds b [] a = absurd a
callee_below ds b (i ∷ is) a = by_first (callee_below ds b is) (action_number ds i.callee) refl a where
  by_first : (Among b (called ds is) → b < length (actions ds)) → (o : Option ℕ) → action_number ds i.callee ≡ o → Among b (cons_option o (called ds is)) → b < length (actions ds)
  by_first more None is h = more h
  by_first more (Some n) is (inl e) = named_within ds i.callee b (is ∙ ap Some (sym e))
  by_first more (Some n) is (inr h) = more h

called_below : (ds : List Decl) (b : ℕ) (o : Option Action) → Among b (option_map_or (called_in ds) o []) → b < length (actions ds)
called_below ds b None a = absurd a
called_below ds b (Some x) a = callee_below ds b (invocations_of x) a

pub closed : (ds : List Decl) → IsClosed (action_graph ds)
closed ds =
    record {
      within = λ a b edge. let h = called_below ds b (slice_get (actions ds) a) (subst (Among b) (called_is ds a) edge) in
          let same : length (action_graph ds) ≡ length (actions ds) = length-map (actions ds) (called_in ds) in omega arith;
    }
