-- Edges that are added from the last node of a graph, and the numbers that they lead to.
use Rattle.std.proofs.Common.{◌≡◌, ℕ, ◌+◌, ◌<◌, Option, Some, None, List, [], ◌∷◌, ◌++◌, length, get_or, take, drop, map, filter_map, option_to_list, refl, sym, ap, ◌∙◌, add-one, drop-cons}
use Rattle.std.specs.List.{cons_option}
use Rattle.std.proofs.lemmas.List.{take_more, append_assoc}
use Rattle.digraph.specs.Graphs.{with_edge}

one_edge : (before : List (List ℕ)) (targets : List ℕ) (t : ℕ) → with_edge (before ++ targets ∷ []) t ≡ before ++ (targets ++ t ∷ []) ∷ []
one_edge [] targets t = refl
one_edge (x ∷ []) targets t = refl
one_edge (x ∷ y ∷ before) targets t = ap (λ (g : List (List ℕ)). x ∷ g) (one_edge (y ∷ before) targets t)

pub edge_now : (before : List (List ℕ)) (targets : List ℕ) (i d : ℕ) (old new : List (List ℕ)) → i < length targets → old ≡ before ++ take i targets ∷ [] → new ≡ with_edge old (get_or targets i d) → new ≡ before ++ take (i + 1) targets ∷ []
edge_now before targets i d old new lt was is =
    is
    ∙ (ap (λ (g : List (List ℕ)). with_edge g (get_or targets i d)) was
    ∙ (one_edge before (take i targets) (get_or targets i d)
    ∙ ap (λ (ts : List ℕ). before ++ ts ∷ []) (sym (take_more targets i d lt))))

next_items : {X : Type 0} (xs : List X) (i : ℕ) (d : X) → i < length xs → drop i xs ≡ get_or xs i d ∷ drop (i + 1) xs
next_items xs i d lt = rw (add-one, drop-cons xs i d lt) refl

one_number : {X : Type 0} (o : Option X) (rest : List X) → cons_option o rest ≡ option_to_list o ++ rest
one_number None rest = refl
one_number (Some x) rest = refl

pub numbers_now : {X Y Z : Type 0} (text : X → Y) (number : Y → Option Z) (xs : List X) (i : ℕ) (d : X) (old new whole : List Z) → i < length xs → new ≡ old ++ option_to_list (number (text (get_or xs i d))) → old ++ filter_map number (map text (drop i xs)) ≡ whole → new ++ filter_map number (map text (drop (i + 1) xs)) ≡ whole
numbers_now text number xs i d old new whole lt is same =
    ap (λ l. l ++ filter_map number (map text (drop (i + 1) xs))) is
    ∙ (append_assoc old (option_to_list (number (text (get_or xs i d)))) (filter_map number (map text (drop (i + 1) xs)))
    ∙ (ap (λ l. old ++ l) (sym (one_number (number (text (get_or xs i d))) (filter_map number (map text (drop (i + 1) xs)))))
    ∙ (ap (λ l. old ++ filter_map number (map text l)) (sym (next_items xs i d lt)) ∙ same)))
