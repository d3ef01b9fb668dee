-- Turns of the loops over declarations and calls.
use Rattle.std.proofs.Common.{◌≡◌, ℕ, ◌+◌, ◌<◌, List, [], ◌∷◌, ◌++◌, length, get_or, drop, map, option_to_list, Option, Some, None, refl, sym, ap, ◌∙◌, append_assoc, append-nil, drop-cons, add-one}
use Rattle.std.specs.List.{cons_option}
use Rattle.digraph.specs.Graphs.{with_edge}
use Rattle.p414_syntax.specs.declared.actions.Action.{Action}
use Rattle.p414_syntax.specs.declared.syntax.Decl.{Decl}
use Rattle.p414_syntax.specs.Arguments.{Invocation, invocations_of, action_in, actions}
use Rattle.p414_syntax.specs.ActionExpansion.{callee_number, called_in}
use Rattle.p414_calls.specs.internal.Edges.{with_edges, called_by}

-- the items from a place on: the one there, and those behind it
next_items : {X : Type 0} (xs : List X) (i : ℕ) (d : X) → i < length xs → drop i xs ≡ get_or xs i d ∷ drop (i + 1) xs
next_items xs i d h = rw (add-one, drop-cons xs i d h) refl

-- what is kept of a declaration that is an action

action_by : {B : Type 0} (f : Action → B) (o : Option Action) (rest : List Action) → map f (cons_option o rest) ≡ map f (option_to_list o) ++ map f rest
action_by f None rest = refl
action_by f (Some a) rest = refl

pub action_now : {B : Type 0} (f : Action → B) (decls : List Decl) (i : ℕ) (d : Decl) (old new whole : List B) → i < length decls → new ≡ old ++ map f (option_to_list (action_in (get_or decls i d))) → old ++ map f (actions (drop i decls)) ≡ whole → new ++ map f (actions (drop (i + 1) decls)) ≡ whole
action_now f decls i d old new whole h is same =
    ap (λ l. l ++ map f (actions (drop (i + 1) decls))) is
    ∙ (append_assoc old (map f (option_to_list (action_in (get_or decls i d)))) (map f (actions (drop (i + 1) decls)))
    ∙ (ap (λ l. old ++ l) (sym (action_by f (action_in (get_or decls i d)) (actions (drop (i + 1) decls))))
    ∙ (sym (ap (λ xs. old ++ map f (actions xs)) (next_items decls i d h)) ∙ same)))

-- edges to the actions that are called

edge_by : (o : Option ℕ) (g : List (List ℕ)) (targets : List ℕ) → with_edges g (cons_option o targets) ≡ with_edges (with_edges g (option_to_list o)) targets
edge_by None g targets = refl
edge_by (Some target) g targets = refl

pub edges_now : (ds : List Decl) (calls : List Invocation) (i : ℕ) (d : Invocation) (old new whole : List (List ℕ)) → i < length calls → new ≡ with_edges old (option_to_list (callee_number ds (get_or calls i d))) → with_edges old (called_by ds (drop i calls)) ≡ whole → with_edges new (called_by ds (drop (i + 1) calls)) ≡ whole
edges_now ds calls i d old new whole h is same =
    ap (λ g. with_edges g (called_by ds (drop (i + 1) calls))) is
    ∙ (sym (edge_by (callee_number ds (get_or calls i d)) old (called_by ds (drop (i + 1) calls)))
    ∙ (sym (ap (λ xs. with_edges old (called_by ds xs)) (next_items calls i d h)) ∙ same))

edge_last : (g : List (List ℕ)) (targets : List ℕ) (target : ℕ) → with_edge (g ++ targets ∷ []) target ≡ g ++ (targets ++ target ∷ []) ∷ []
edge_last [] targets target = refl
edge_last (a ∷ []) targets target = refl
edge_last (a ∷ b ∷ g) targets target = ap (λ rest. a ∷ rest) (edge_last (b ∷ g) targets target)

edges_last : (g : List (List ℕ)) (before targets : List ℕ) → with_edges (g ++ before ∷ []) targets ≡ g ++ (before ++ targets) ∷ []
edges_last g before [] = ap (λ row. g ++ row ∷ []) (sym (append-nil before))
edges_last g before (target ∷ targets) =
    ap (λ graph. with_edges graph targets) (edge_last g before target)
    ∙ (edges_last g (before ++ target ∷ []) targets ∙ ap (λ row. g ++ row ∷ []) (append_assoc before (target ∷ []) targets))

-- a further node with its edges
pub node_with : (old middle new : List (List ℕ)) (targets : List ℕ) → middle ≡ old ++ [] ∷ [] → new ≡ with_edges middle targets → new ≡ old ++ targets ∷ []
node_with old middle new targets begun is = is ∙ (ap (λ g. with_edges g targets) begun ∙ edges_last old [] targets)

-- the rows of the calls of all actions are those of the actions

rows_of : (ds : List Decl) (xs : List Action) → map (called_by ds) (map invocations_of xs) ≡ map (called_in ds) xs
rows_of ds [] = refl
rows_of ds (x ∷ xs) = ap (λ rows. called_in ds x ∷ rows) (rows_of ds xs)

pub rows_are : (ds : List Decl) (calls : List (List Invocation)) → calls ≡ map invocations_of (actions ds) → map (called_by ds) calls ≡ map (called_in ds) (actions ds)
rows_are ds calls is = ap (map (called_by ds)) is ∙ rows_of ds (actions ds)
