-- Laws of edges that are added from the last node of a graph.
use Rattle.std.proofs.Common.{◌≡◌, ℕ, ◌+◌, ◌<◌, List, [], ◌∷◌, ◌++◌, length, get_or, drop, map, filter_map, option_to_list, Option, Some, None, refl, sym, ◌∙◌, ap, add-one, drop-cons}
use Rattle.std.specs.List.{cons_option}
use Rattle.std.proofs.lemmas.List.{append-nil, append_assoc}
use Rattle.name_numbers.specs.Names.{Name, find_name}
use Rattle.digraph.specs.Graphs.{with_edge}
use Rattle.name_cycles.specs.internal.Edges.{with_edges}

one_edge : (before : List (List ℕ)) (targets : List ℕ) (t : ℕ) → with_edge (before ++ targets ∷ []) t ≡ before ++ (targets ++ t ∷ []) ∷ []
one_edge [] targets t = refl
one_edge (x ∷ []) targets t = refl
one_edge (x ∷ y ∷ before) targets t = ap (λ (g : List (List ℕ)). x ∷ g) (one_edge (y ∷ before) targets t)

edges_from : (before : List (List ℕ)) (targets more : List ℕ) → with_edges (before ++ targets ∷ []) more ≡ before ++ (targets ++ more) ∷ []
edges_from before targets [] = ap (λ (ts : List ℕ). before ++ ts ∷ []) (sym (append-nil targets))
edges_from before targets (t ∷ more) =
    ap (λ (g : List (List ℕ)). with_edges g more) (one_edge before targets t)
    ∙ (edges_from before (targets ++ t ∷ []) more
    ∙ ap (λ (ts : List ℕ). before ++ ts ∷ []) (append_assoc targets (t ∷ []) more))

-- a further node with its edges
pub node_added : (old middle new : List (List ℕ)) (targets : List ℕ) → middle ≡ old ++ [] ∷ [] → new ≡ with_edges middle targets → new ≡ old ++ targets ∷ []
node_added old middle new targets begun is = is ∙ (ap (λ (g : List (List ℕ)). with_edges g targets) begun ∙ edges_from old [] targets)

-- the edge that one turn adds

next_items : {X : Type 0} (xs : List X) (i : ℕ) (d : X) → i < length xs → drop i xs ≡ get_or xs i d ∷ drop (i + 1) xs
next_items xs i d h = rw (add-one, drop-cons xs i d h) refl

edge_by : (o : Option ℕ) (g : List (List ℕ)) (targets : List ℕ) → with_edges g (cons_option o targets) ≡ with_edges (with_edges g (option_to_list o)) targets
edge_by None g targets = refl
edge_by (Some target) g targets = refl

pub edges_now : {X : Type 0} (text : X → Name) (names : List Name) (xs : List X) (i : ℕ) (d : X) (old new whole : List (List ℕ)) → i < length xs → new ≡ with_edges old (option_to_list (find_name names (text (get_or xs i d)))) → with_edges old (filter_map (find_name names) (map text (drop i xs))) ≡ whole → with_edges new (filter_map (find_name names) (map text (drop (i + 1) xs))) ≡ whole
edges_now text names xs i d old new whole h is same =
    ap (λ (g : List (List ℕ)). with_edges g (filter_map (find_name names) (map text (drop (i + 1) xs)))) is
    ∙ (sym (edge_by (find_name names (text (get_or xs i d))) old (filter_map (find_name names) (map text (drop (i + 1) xs))))
    ∙ (sym (ap (λ l. with_edges old (filter_map (find_name names) (map text l))) (next_items xs i d h)) ∙ same))
