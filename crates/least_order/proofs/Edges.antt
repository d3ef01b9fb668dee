-- Laws of edges that are added from the last node of a graph.
use Rattle.std.proofs.Common.{◌≡◌, ℕ, List, [], ◌∷◌, ◌++◌, fold, Result, Ok, Err, OnOk, refl, sym, ◌∙◌, ap}
use Rattle.std.proofs.lemmas.List.{append-nil, append_assoc}
use Rattle.digraph.specs.Graphs.{with_edge}

one_edge : (before : List (List ℕ)) (targets : List ℕ) (t : ℕ) → with_edge (before ++ targets ∷ []) t ≡ before ++ (targets ++ t ∷ []) ∷ []
one_edge [] targets t = refl
one_edge (x ∷ []) targets t = refl
one_edge (x ∷ y ∷ before) targets t = ap (λ (g : List (List ℕ)). x ∷ g) (one_edge (y ∷ before) targets t)

edges_from : (before : List (List ℕ)) (targets more : List ℕ) → fold with_edge (before ++ targets ∷ []) more ≡ before ++ (targets ++ more) ∷ []
edges_from before targets [] = ap (λ (ts : List ℕ). before ++ ts ∷ []) (sym (append-nil targets))
edges_from before targets (t ∷ more) =
    ap (λ (g : List (List ℕ)). fold with_edge g more) (one_edge before targets t)
    ∙ (edges_from before (targets ++ t ∷ []) more
    ∙ ap (λ (ts : List ℕ). before ++ ts ∷ []) (append_assoc targets (t ∷ []) more))

-- a node with these edges is added
pub row_added : {E : Type 0} (r : Result (Unit {0}) E) (before old new : List (List ℕ)) (targets : List ℕ) → old ≡ before ++ [] ∷ [] → OnOk r (new ≡ fold with_edge old targets) → OnOk r (new ≡ before ++ targets ∷ [])
row_added (Ok x) before old new targets old_is is = is ∙ (ap (λ (g : List (List ℕ)). fold with_edge g targets) old_is ∙ edges_from before [] targets)
row_added (Err e) before old new targets old_is is = tt
