-- Laws of edges that are added from the last node of a graph.
use Rattle.std.proofs.Common.{◌≡◌, ℕ, List, [], ◌∷◌, ◌++◌, Result, Ok, Err, OnOk, refl, sym, ◌∙◌, ap}
use Rattle.std.proofs.lemmas.List.{append-nil, append_assoc}
use Rattle.digraph.specs.Graphs.{with_edge}
use Rattle.parse_graph.specs.internal.IdleEdges.{with_edges}

one_edge : (before : List (List ℕ)) (targets : List ℕ) (t : ℕ) → with_edge (before ++ targets ∷ []) t ≡ before ++ (targets ++ t ∷ []) ∷ []
one_edge [] targets t = refl
one_edge (x ∷ []) targets t = refl
one_edge (x ∷ y ∷ before) targets t = ap (λ (g : List (List ℕ)). x ∷ g) (one_edge (y ∷ before) targets t)

pub edges_from : (before : List (List ℕ)) (targets more : List ℕ) → with_edges (before ++ targets ∷ []) more ≡ before ++ (targets ++ more) ∷ []
edges_from before targets [] = ap (λ (ts : List ℕ). before ++ ts ∷ []) (sym (append-nil targets))
edges_from before targets (t ∷ more) =
    ap (λ (g : List (List ℕ)). with_edges g more) (one_edge before targets t)
    ∙ (edges_from before (targets ++ t ∷ []) more
    ∙ ap (λ (ts : List ℕ). before ++ ts ∷ []) (append_assoc targets (t ∷ []) more))

-- a state with these edges is added
pub state_added : {E : Type 0} (r : Result (Unit {0}) E) (before old new : List (List ℕ)) (targets added : List ℕ) → old ≡ before ++ [] ∷ [] → targets ≡ added → OnOk r (new ≡ with_edges old added) → OnOk r (new ≡ before ++ targets ∷ [])
state_added (Ok x) before old new targets added old_is same is = is ∙ (ap (λ (g : List (List ℕ)). with_edges g added) old_is ∙ (edges_from before [] added ∙ ap (λ (ts : List ℕ). before ++ ts ∷ []) (sym same)))
state_added (Err e) before old new targets added old_is same is = tt
