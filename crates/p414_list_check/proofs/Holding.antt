-- A list holds itself where its node lies on a cycle of the graph of lists.
use Rattle.std.proofs.Common.{◌≡◌, ℕ, suc, zero, ◌<◌, List, [], ◌∷◌, ◌++◌, length, get_or, map, slice_get, inl, inr, Option, Some, None, Contains, option_map, refl, sym, ap, ◌∙◌, subst, arith}
use Rattle.std.specs.Option.{option_map_or}
use Rattle.std.specs.List.{cons_option}
use Rattle.std.proofs.lemmas.List.{length-map}
use Rattle.digraph.specs.Graphs.{Among, successors, IsEdge, WalkTo, Edge, Onward, OnCycle, IsClosed}
use Rattle.digraph.specs.Expansions.{HasCycle}
use Rattle.p414_syntax.specs.declared.calculations.FieldList.{FieldList}
use Rattle.p414_syntax.specs.declared.calculations.Item.{Item}
use Rattle.p414_syntax.specs.declared.syntax.Decl.{Decl}
use Rattle.p414_syntax.specs.Walks.{IsWalk}
use Rattle.p414_syntax.specs.Lists.{HoldsItself}
use Rattle.p414_syntax.specs.Expansion.{lists, items_in, inner_number, inner_numbers, held_by}
use Rattle.p414_list_check.specs.internal.Expanded.{list_row, list_graph}
use Rattle.p414_list_check.proofs.Expanding.{inner_within}

-- a number stands in a list

to_among : (x : ℕ) (xs : List ℕ) (k : ℕ) → k < length xs → get_or xs k x ≡ x → Among x xs
to_among x [] k h e = absurd (omega arith)
to_among x (y ∷ ys) zero h e = inl (sym e)
to_among x (y ∷ ys) (suc k) h e = inr (to_among x ys k (omega arith) e)

pub among : (x : ℕ) (xs : List ℕ) → Contains xs x → Among x xs
among x xs (k, h, e) = to_among x xs k h e

pub contains : (x : ℕ) (xs : List ℕ) → Among x xs → Contains xs x
contains x [] a = absurd a
contains x (y ∷ ys) (inl e) = (0, omega arith, sym e)
contains x (y ∷ ys) (inr a) = let h = contains x ys a in (suc h.0, omega arith, h.2)

-- a node's successors are what its list holds

held_there : (ds : List Decl) (fs : List FieldList) (l : ℕ) → get_or (map (list_row ds) fs) l [] ≡ option_map_or (inner_numbers ds) (option_map items_in (slice_get fs l)) []
held_there ds [] l = refl
held_there ds (f ∷ fs) zero = refl
held_there ds (f ∷ fs) (suc l) = held_there ds fs l

pub held_is : (ds : List Decl) (l : ℕ) → successors (list_graph ds) l ≡ held_by ds l
held_is ds l = held_there ds (lists ds) l

edge_to : (ds : List Decl) (a b : ℕ) → Contains (held_by ds a) b → IsEdge (list_graph ds) a b
edge_to ds a b h = subst (Among b) (sym (held_is ds a)) (among b (held_by ds a) h)

edge_from : (ds : List Decl) (a b : ℕ) → IsEdge (list_graph ds) a b → Contains (held_by ds a) b
edge_from ds a b h = contains b (held_by ds a) (subst (Among b) (held_is ds a) h)

-- walks

walk_to : (ds : List Decl) (c : ℕ) (between : List ℕ) (a : ℕ) → IsWalk (held_by ds) (a ∷ between ++ c ∷ []) → WalkTo (list_graph ds) c a
walk_to ds c [] a w = Edge a (edge_to ds a c w.0)
walk_to ds c (b ∷ between) a w = Onward a b (edge_to ds a b w.0) (walk_to ds c between b w.1)

walk_from : (ds : List Decl) (c a : ℕ) → WalkTo (list_graph ds) c a → (between : List ℕ) × IsWalk (held_by ds) (a ∷ between ++ c ∷ [])
walk_from ds c a (Edge _ e) = ([], (edge_from ds a c e, _))
walk_from ds c a (Onward _ b e w) = let h = walk_from ds c b w in (b ∷ h.0, (edge_from ds a b e, h.1))

pub holds_itself : (ds : List Decl) → HasCycle (list_graph ds) → HoldsItself ds
holds_itself ds (a, cycle) = let h = walk_from ds a a cycle in (a, h.0, h.1)

pub holds_none : (ds : List Decl) → ((a : ℕ) → OnCycle (list_graph ds) a → ⊥) → HoldsItself ds → ⊥
holds_none ds acyclic (a, between, cycle) = acyclic a (walk_to ds a between a cycle)

-- each edge leads to a node

inner_below : (ds : List Decl) (b : ℕ) (items : List Item) → Among b (inner_numbers ds items) → b < length (lists ds)
inner_below ds b [] a = absurd a
inner_below ds b (i ∷ items) a = by_first (inner_below ds b items) (inner_number ds i) refl a where
  by_first : (Among b (inner_numbers ds items) → b < length (lists ds)) → (o : Option ℕ) → inner_number ds i ≡ o → Among b (cons_option o (inner_numbers ds items)) → b < length (lists ds)
  by_first more None is h = more h
  by_first more (Some l) is (inl e) = inner_within ds i b (is ∙ ap Some (sym e))
  by_first more (Some l) is (inr h) = more h

held_below : (ds : List Decl) (b : ℕ) (o : Option FieldList) → Among b (option_map_or (inner_numbers ds) (option_map items_in o) []) → b < length (lists ds)
held_below ds b None a = absurd a
held_below ds b (Some f) a = inner_below ds b f.items a

pub closed : (ds : List Decl) → IsClosed (list_graph ds)
closed ds =
    record {
      within = λ a b edge. let h = held_below ds b (slice_get (lists ds) a) (subst (Among b) (held_is ds a) edge) in
          let same : length (list_graph ds) ≡ length (lists ds) = length-map (lists ds) (list_row ds) in omega arith;
    }
