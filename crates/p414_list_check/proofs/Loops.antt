-- Turns of the loops that gather what C8 asks.
use Rattle.std.proofs.Common.{◌≡◌, ℕ, ◌+◌, ◌<◌, min, Bool, ◌||◌, List, [], ◌∷◌, ◌++◌, length, get_or, drop, map, sum_by, flat_map, option_to_list, Option, Some, None, refl, sym, ap, ◌∙◌, append_assoc, append-nil, drop-cons, add-one, arith}
use Rattle.std.specs.List.{list_any, cons_option}
use Rattle.std.proofs.lemmas.Grind.{flat_map-append}
use Rattle.std.proofs.lemmas.List.{map-append}
use Rattle.std.proofs.lemmas.List.Sums.{sum_by-drop_more}
use Rattle.std.proofs.lemmas.List.Folds.{list_any-append}
use Rattle.digraph.specs.Graphs.{with_edge}
use Rattle.p414_syntax.specs.declared.calculations.CalculatedField.{CalculatedField}
use Rattle.p414_syntax.specs.declared.calculations.FieldList.{FieldList}
use Rattle.p414_syntax.specs.declared.calculations.Item.{Item}
use Rattle.p414_syntax.specs.declared.syntax.Decl.{Decl}
use Rattle.p414_syntax.specs.Expansion.{lists, list_in, list_number, inner_number, inner_numbers}
use Rattle.p414_syntax.specs.Lists.{calculated_in, calculated_fields, input_of, inputs_of_field, all_inputs}
use Rattle.p414_list_check.specs.internal.Expanded.{with_edges, field_numbers, input_numbers}

-- an item is counted
pub cut_now : {X : Type 0} (f : X → ℕ) (xs : List X) (i : ℕ) (d : X) (total whole : ℕ) → i < length xs → min 65537 (total + sum_by f (drop i xs)) ≡ whole → min 65537 (min 65537 (total + f (get_or xs i d)) + sum_by f (drop (i + 1) xs)) ≡ whole
cut_now f xs i d total whole h same = let e = sum_by-drop_more f xs i d h in omega arith

-- the items from a place on: the one there, and those behind it
pub next_items : {X : Type 0} (xs : List X) (i : ℕ) (d : X) → i < length xs → drop i xs ≡ get_or xs i d ∷ drop (i + 1) xs
next_items xs i d h = rw (add-one, drop-cons xs i d h) refl

-- edges to the lists that stand in a list

edge_by : (o : Option ℕ) (g : List (List ℕ)) (targets : List ℕ) → with_edges g (cons_option o targets) ≡ with_edges (with_edges g (option_to_list o)) targets
edge_by None g targets = refl
edge_by (Some target) g targets = refl

pub edges_now : (ds : List Decl) (items : List Item) (i : ℕ) (d : Item) (old new whole : List (List ℕ)) → i < length items → new ≡ with_edges old (option_to_list (inner_number ds (get_or items i d))) → with_edges old (inner_numbers ds (drop i items)) ≡ whole → with_edges new (inner_numbers ds (drop (i + 1) items)) ≡ whole
edges_now ds items i d old new whole h is same =
    ap (λ g. with_edges g (inner_numbers ds (drop (i + 1) items))) is
    ∙ (sym (edge_by (inner_number ds (get_or items i d)) old (inner_numbers ds (drop (i + 1) items)))
    ∙ (sym (ap (λ xs. with_edges old (inner_numbers ds xs)) (next_items items i d h)) ∙ same))

edge_last : (g : List (List ℕ)) (targets : List ℕ) (target : ℕ) → with_edge (g ++ targets ∷ []) target ≡ g ++ (targets ++ target ∷ []) ∷ []
edge_last [] targets target = refl
edge_last (a ∷ []) targets target = refl
edge_last (a ∷ b ∷ g) targets target = ap (λ rest. a ∷ rest) (edge_last (b ∷ g) targets target)

edges_last : (g : List (List ℕ)) (before targets : List ℕ) → with_edges (g ++ before ∷ []) targets ≡ g ++ (before ++ targets) ∷ []
edges_last g before [] = ap (λ row. g ++ row ∷ []) (sym (append-nil before))
edges_last g before (target ∷ targets) =
    ap (λ graph. with_edges graph targets) (edge_last g before target)
    ∙ (edges_last g (before ++ target ∷ []) targets ∙ ap (λ row. g ++ row ∷ []) (append_assoc before (target ∷ []) targets))

-- a further node with its edges
pub node_with : (old middle new : List (List ℕ)) (targets : List ℕ) → middle ≡ old ++ [] ∷ [] → new ≡ with_edges middle targets → new ≡ old ++ targets ∷ []
node_with old middle new targets begun is = is ∙ (ap (λ g. with_edges g targets) begun ∙ edges_last old [] targets)

-- what is kept of a declaration that is a list

list_by : {B : Type 0} (f : FieldList → B) (o : Option FieldList) (rest : List FieldList) → map f (cons_option o rest) ≡ map f (option_to_list o) ++ map f rest
list_by f None rest = refl
list_by f (Some l) rest = refl

pub list_now : {B : Type 0} (f : FieldList → B) (decls : List Decl) (i : ℕ) (d : Decl) (old new whole : List B) → i < length decls → new ≡ old ++ map f (option_to_list (list_in (get_or decls i d))) → old ++ map f (lists (drop i decls)) ≡ whole → new ++ map f (lists (drop (i + 1) decls)) ≡ whole
list_now f decls i d old new whole h is same =
    ap (λ l. l ++ map f (lists (drop (i + 1) decls))) is
    ∙ (append_assoc old (map f (option_to_list (list_in (get_or decls i d)))) (map f (lists (drop (i + 1) decls)))
    ∙ (ap (λ l. old ++ l) (sym (list_by f (list_in (get_or decls i d)) (lists (drop (i + 1) decls))))
    ∙ (sym (ap (λ xs. old ++ map f (lists xs)) (next_items decls i d h)) ∙ same)))

-- what is kept of a declaration that is a calculated field

pub field_now : {B : Type 0} (f : CalculatedField → List B) (decls : List Decl) (i : ℕ) (d : Decl) (old new whole : List B) → i < length decls → new ≡ old ++ flat_map f (calculated_in (get_or decls i d)) → old ++ flat_map f (calculated_fields (drop i decls)) ≡ whole → new ++ flat_map f (calculated_fields (drop (i + 1) decls)) ≡ whole
field_now f decls i d old new whole h is same =
    ap (λ l. l ++ flat_map f (calculated_fields (drop (i + 1) decls))) is
    ∙ (append_assoc old (flat_map f (calculated_in (get_or decls i d))) (flat_map f (calculated_fields (drop (i + 1) decls)))
    ∙ (ap (λ l. old ++ l) (sym (flat_map-append f (calculated_in (get_or decls i d)) (calculated_fields (drop (i + 1) decls))))
    ∙ (sym (ap (λ xs. old ++ flat_map f (calculated_fields xs)) (next_items decls i d h)) ∙ same)))

pub any_field : (p : CalculatedField → Bool) (decls : List Decl) (i : ℕ) (d : Decl) → i < length decls → list_any p (calculated_fields (drop i decls)) ≡ (list_any p (calculated_in (get_or decls i d)) || list_any p (calculated_fields (drop (i + 1) decls)))
any_field p decls i d h =
    ap (λ xs. list_any p (calculated_fields xs)) (next_items decls i d h)
    ∙ list_any-append p (calculated_in (get_or decls i d)) (calculated_fields (drop (i + 1) decls))

-- the numbers of all inputs are those of their names

numbers_of : {X A B : Type 0} (g : A → B) (f : X → List A) (xs : List X) → flat_map (λ x. map g (f x)) xs ≡ map g (flat_map f xs)
numbers_of g f [] = refl
numbers_of g f (x ∷ xs) = ap (λ l. map g (f x) ++ l) (numbers_of g f xs) ∙ sym (map-append g (f x) (flat_map f xs))

same_flat : {X B : Type 0} (f g : X → List B) → ((x : X) → f x ≡ g x) → (xs : List X) → flat_map f xs ≡ flat_map g xs
same_flat f g same xs = λ i. flat_map (λ x. same x i) xs

pub numbers_are : (ds : List Decl) → input_numbers ds ≡ map (list_number ds) (all_inputs ds)
numbers_are ds =
    same_flat (field_numbers ds) (λ c. map (list_number ds) (inputs_of_field ds c)) (λ c. numbers_of (list_number ds) (input_of ds) c.entries) (calculated_fields ds)
    ∙ numbers_of (list_number ds) (inputs_of_field ds) (calculated_fields ds)
