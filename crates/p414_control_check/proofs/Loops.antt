-- Turns of the loops over declarations, statements and expressions.
use Rattle.std.proofs.Common.{◌≡◌, ℕ, ◌+◌, ◌<◌, min, Bool, cond, List, [], ◌∷◌, ◌++◌, length, get_or, drop, map, sum_by, option_to_list, Option, Some, None, refl, sym, ap, ◌∙◌, append_assoc, append-nil, drop-cons, add-one, arith}
use Rattle.std.specs.Prelude.{filter_map, flat_map, count_by}
use Rattle.std.specs.List.{cons_option}
use Rattle.std.proofs.lemmas.List.Sums.{sum_by-cons, sum_by-drop_more}
use Rattle.digraph.specs.Graphs.{with_edge}
use Rattle.p414_syntax.specs.declared.syntax.Decl.{Decl}
use Rattle.p414_syntax.specs.Tree.{Expr, Stmt}
use Rattle.p414_syntax.specs.Views.{ControlTree}
use Rattle.p414_syntax.specs.ControlExpansion.{controls, control_in, control_number, own_call}
use Rattle.p414_syntax.specs.Controls.{is_operand}
use Rattle.p414_control_check.specs.Edges.{with_edges}
use Rattle.p414_control_check.proofs.Expanding.{filter_append}

-- the items from a place on: the one there, and those behind it
pub next_items : {X : Type 0} (xs : List X) (i : ℕ) (d : X) → i < length xs → drop i xs ≡ get_or xs i d ∷ drop (i + 1) xs
next_items xs i d h = rw (add-one, drop-cons xs i d h) refl

-- a statement or an expression is counted

pub count_now : {X : Type 0} (f : X → ℕ) (xs : List X) (i : ℕ) (d : X) (total count whole : ℕ) → i < length xs → count ≡ min 65537 (f (get_or xs i d)) → min 65537 (total + sum_by f (drop i xs)) ≡ whole → min 65537 (min 65537 (total + count) + sum_by f (drop (i + 1) xs)) ≡ whole
count_now f xs i d total count whole h is same = let e = sum_by-drop_more f xs i d h in omega arith

count_first : (p : Expr → Bool) (x : Expr) (xs : List Expr) → count_by p (x ∷ xs) ≡ cond (p x) 1 0 + count_by p xs
count_first p x xs = sum_by-cons (λ y. cond (p y) 1 0) x xs

pub operand_now : (xs : List Expr) (i : ℕ) (d : Expr) (total whole : ℕ) → i < length xs → min 65537 (total + count_by is_operand (drop i xs)) ≡ whole → min 65537 (min 65537 (total + cond (is_operand (get_or xs i d)) 1 0) + count_by is_operand (drop (i + 1) xs)) ≡ whole
operand_now xs i d total whole h same =
    let a : count_by is_operand (drop i xs) ≡ count_by is_operand (get_or xs i d ∷ drop (i + 1) xs) = ap (count_by is_operand) (next_items xs i d h) in
    let b = count_first is_operand (get_or xs i d) (drop (i + 1) xs) in
    omega arith

-- edges to the controls that statements call

pub edges_on : (g : List (List ℕ)) (xs ys : List ℕ) → with_edges g (xs ++ ys) ≡ with_edges (with_edges g xs) ys
edges_on g [] ys = refl
edges_on g (x ∷ xs) ys = edges_on (with_edge g x) xs ys

pub calls_now : (ds : List Decl) (ss : List Stmt) (i : ℕ) (d : Stmt) (old new whole : List (List ℕ)) → i < length ss → new ≡ with_edges old (filter_map (control_number ds) (own_call (get_or ss i d))) → with_edges old (filter_map (control_number ds) (flat_map own_call (drop i ss))) ≡ whole → with_edges new (filter_map (control_number ds) (flat_map own_call (drop (i + 1) ss))) ≡ whole
calls_now ds ss i d old new whole h is same =
    ap (λ g. with_edges g (filter_map (control_number ds) (flat_map own_call (drop (i + 1) ss)))) is
    ∙ (sym (edges_on old (filter_map (control_number ds) (own_call (get_or ss i d))) (filter_map (control_number ds) (flat_map own_call (drop (i + 1) ss))))
    ∙ (sym (ap (with_edges old) (filter_append (control_number ds) (own_call (get_or ss i d)) (flat_map own_call (drop (i + 1) ss))))
    ∙ (sym (ap (λ xs. with_edges old (filter_map (control_number ds) (flat_map own_call xs))) (next_items ss i d h)) ∙ same)))

edge_last : (g : List (List ℕ)) (targets : List ℕ) (target : ℕ) → with_edge (g ++ targets ∷ []) target ≡ g ++ (targets ++ target ∷ []) ∷ []
edge_last [] targets target = refl
edge_last (a ∷ []) targets target = refl
edge_last (a ∷ b ∷ g) targets target = ap (λ rest. a ∷ rest) (edge_last (b ∷ g) targets target)

edges_last : (g : List (List ℕ)) (before targets : List ℕ) → with_edges (g ++ before ∷ []) targets ≡ g ++ (before ++ targets) ∷ []
edges_last g before [] = ap (λ row. g ++ row ∷ []) (sym (append-nil before))
edges_last g before (target ∷ targets) =
    ap (λ graph. with_edges graph targets) (edge_last g before target)
    ∙ (edges_last g (before ++ target ∷ []) targets ∙ ap (λ row. g ++ row ∷ []) (append_assoc before (target ∷ []) targets))

-- a further node with its edges
pub node_with : (old middle new : List (List ℕ)) (targets : List ℕ) → middle ≡ old ++ [] ∷ [] → new ≡ with_edges middle targets → new ≡ old ++ targets ∷ []
node_with old middle new targets begun is = is ∙ (ap (λ g. with_edges g targets) begun ∙ edges_last old [] targets)

-- what is kept of a declaration that is a control

control_by : {B : Type 0} (f : ControlTree → B) (o : Option ControlTree) (rest : List ControlTree) → map f (cons_option o rest) ≡ map f (option_to_list o) ++ map f rest
control_by f None rest = refl
control_by f (Some c) rest = refl

pub control_now : {B : Type 0} (f : ControlTree → B) (decls : List Decl) (i : ℕ) (d : Decl) (old new whole : List B) → i < length decls → new ≡ old ++ map f (option_to_list (control_in (get_or decls i d))) → old ++ map f (controls (drop i decls)) ≡ whole → new ++ map f (controls (drop (i + 1) decls)) ≡ whole
control_now f decls i d old new whole h is same =
    ap (λ l. l ++ map f (controls (drop (i + 1) decls))) is
    ∙ (append_assoc old (map f (option_to_list (control_in (get_or decls i d)))) (map f (controls (drop (i + 1) decls)))
    ∙ (ap (λ l. old ++ l) (sym (control_by f (control_in (get_or decls i d)) (controls (drop (i + 1) decls))))
    ∙ (sym (ap (λ xs. old ++ map f (controls xs)) (next_items decls i d h)) ∙ same)))
