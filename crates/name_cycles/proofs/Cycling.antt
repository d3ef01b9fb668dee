-- Each edge of the graph of named nodes leads to one of them, and what is known of its cycles.
use Rattle.std.proofs.Common.{◌≡◌, ℕ, zero, suc, ◌<◌, inl, inr, Bool, Option, Some, None, List, [], ◌∷◌, length, map, filter_map, refl, sym, ap, ◌∙◌, subst, arith}
use Rattle.std.specs.Prelude.{MatchOption, is_some}
use Rattle.std.specs.Bool.{MatchBool}
use Rattle.std.specs.List.{cons_option}
use Rattle.std.proofs.lemmas.List.{length-map}
use Rattle.std.proofs.lemmas.List.Quantifiers.{position-Some}
use Rattle.std.specs.Str.{bytes_eq}
use Rattle.digraph.specs.Graphs.{Among, successors, IsClosed, OnCycle, IsLeastOnCycle}
use Rattle.digraph.specs.Expansions.{HasCycle}
use Rattle.name_numbers.specs.Names.{Name, find_name}
use Rattle.name_cycles.specs.Named.{NamedNode, called_of, next_of, named_graph}

below_by : (names : List Name) (name : Name) (o : Option ℕ) (b : ℕ) (rest : List ℕ) → find_name names name ≡ o → (Among b rest → b < length names) → Among b (cons_option o rest) → b < length names
below_by names name None b rest at more h = more h
below_by names name (Some n) b rest at more (inl e) = (position-Some (bytes_eq name) names b [] (at ∙ ap Some (sym e))).0
below_by names name (Some n) b rest at more (inr h) = more h

found_below : (names targets : List Name) (b : ℕ) → Among b (filter_map (find_name names) targets) → b < length names
found_below names [] b h = absurd h
found_below names (t ∷ targets) b h = below_by names t (find_name names t) b (filter_map (find_name names) targets) refl (found_below names targets b) h

edge_below : (names : List Name) (ns : List NamedNode) (a b : ℕ) → Among b (successors (map (next_of names) ns) a) → b < length names
edge_below names [] zero b h = absurd h
edge_below names [] (suc a) b h = absurd h
edge_below names (n ∷ ns) zero b h = found_below names n.leads_to b h
edge_below names (n ∷ ns) (suc a) b h = edge_below names ns a b h

closed : (ns : List NamedNode) → IsClosed (named_graph ns)
closed ns = record {
  within = λ a b edge.
      let lt : b < length (map called_of ns) = edge_below (map called_of ns) ns a b edge in
      let names : length (map called_of ns) ≡ length ns = length-map ns called_of in
      let nodes : length (named_graph ns) ≡ length ns = length-map ns (next_of (map called_of ns)) in
      omega arith;
}

-- the same of a graph that was built
pub closed_by : (ns : List NamedNode) (names : List Name) (g : List (List ℕ)) → names ≡ map called_of ns → g ≡ map (next_of names) ns → IsClosed g
closed_by ns names g named is = subst (λ (h : List (List ℕ)). IsClosed h) (sym (is ∙ ap (λ (l : List Name). map (next_of l) ns) named)) (closed ns)

-- a node on a cycle was found, or there is none
cycle_by : (g : List (List ℕ)) (o : Option ℕ) → MatchOption o ((a : ℕ) → OnCycle g a → ⊥) (IsLeastOnCycle g) → MatchBool (is_some o) (HasCycle g) (HasCycle g → ⊥)
cycle_by g None none = λ cycle. none cycle.0 cycle.1
cycle_by g (Some a) least = (a, least.0)

pub leads_back : (ns : List NamedNode) (names : List Name) (g : List (List ℕ)) (o : Option ℕ) (found : Bool) → names ≡ map called_of ns → g ≡ map (next_of names) ns → found ≡ is_some o → MatchOption o ((a : ℕ) → OnCycle g a → ⊥) (IsLeastOnCycle g)
    → MatchBool found (HasCycle (named_graph ns)) (HasCycle (named_graph ns) → ⊥)
leads_back ns names g o found named is seen least =
    subst (λ (b : Bool). MatchBool b (HasCycle (named_graph ns)) (HasCycle (named_graph ns) → ⊥)) (sym seen)
    (subst (λ (h : List (List ℕ)). MatchBool (is_some o) (HasCycle h) (HasCycle h → ⊥)) (is ∙ ap (λ (l : List Name). map (next_of l) ns) named) (cycle_by g o least))
