-- What a program comes to, part by part.
use Rattle.std.proofs.Common.{◌≡◌, ℕ, suc, zero, ◌<◌, List, [], ◌∷◌, length, map, slice_get, slice_index_or, Option, Some, None, MatchOption, option_map, option_and_then, refl, sym, ap, ◌∙◌, subst, arith}
use Rattle.std.specs.Option.{option_map_or}
use Rattle.std.proofs.lemmas.List.{length-map}
use Rattle.p414_syntax.specs.declared.calculations.FieldList.{FieldList}
use Rattle.p414_syntax.specs.declared.calculations.Item.{Item}
use Rattle.p414_syntax.specs.declared.syntax.Decl.{Decl}
use Rattle.p414_syntax.specs.Tree.{Stmt, no_statements}
use Rattle.p414_syntax.specs.Views.{ControlTree}
use Rattle.p414_syntax.specs.Names.{Name}
use Rattle.p414_syntax.specs.Arguments.{Invocation, actions, invocations_of}
use Rattle.p414_syntax.specs.ActionExpansion.{ActionExpands}
use Rattle.p414_syntax.specs.Breaks.{BreaksNone, program_rules}
use Rattle.p414_syntax.specs.ControlExpansion.{control_number, controls, ingress, egress, PipelineExpands, StatementExpands}
use Rattle.p414_syntax.specs.Expansion.{items_at, items_in, lists, Expands}
use Rattle.p414_syntax.specs.ParserGraph.{Order}
use Rattle.p414_sem.specs.Expanded.{Expanded, IsExpanded, items_in_list, primitives_at}
use Rattle.p414_laws.specs.Expansion.{action_comes, control_comes, expansion, list_comes, pipeline_comes}
use Rattle.p414_laws.proofs.Accepted.{accepted_there, actions_deep, controls_deep, lists_deep}
use Rattle.p414_laws.proofs.Actions.{calls_come}
use Rattle.p414_laws.proofs.Controls.{body_comes}
use Rattle.p414_laws.proofs.Lists.{items_come}
use Rattle.p414_laws.proofs.Once.{action_once, items_once, order_once, pipeline_once}

-- lists by their elements

get_within : {X : Type 0} (xs : List X) (n : ℕ) → n < length xs → (x : X) × (slice_get xs n ≡ Some x)
get_within [] n h = absurd (omega arith)
get_within (x ∷ xs) zero h = (x, refl)
get_within (x ∷ xs) (suc n) h = get_within xs n (omega arith)

mapped : {X Y : Type 0} (f : X → Y) (d : Y) (xs : List X) (n : ℕ) (x : X) → slice_get xs n ≡ Some x → slice_index_or (map f xs) n d ≡ f x
mapped f d [] n x e = absurd (cc e)
mapped f d (y ∷ xs) zero x e = ap f (cc e)
mapped f d (y ∷ xs) (suc n) x e = mapped f d xs n x e

pub same_lists : {X : Type 0} (d : X) (xs ys : List X) → length xs ≡ length ys → ((n : ℕ) → n < length xs → slice_index_or xs n d ≡ slice_index_or ys n d) → xs ≡ ys
same_lists d [] [] same each = refl
same_lists d [] (y ∷ ys) same each = absurd (omega arith)
same_lists d (x ∷ xs) [] same each = absurd (omega arith)
same_lists d (x ∷ xs) (y ∷ ys) same each =
    ap (λ a. a ∷ xs) (each 0 (omega arith))
    ∙ ap (λ l. y ∷ l) (same_lists d xs ys (omega arith) (λ n h. each (suc n) (omega arith)))

-- each part is there

action_there : (ds : List Decl) → BreaksNone ds program_rules → (n : ℕ) → n < length (actions ds) → ActionExpands ds n (slice_index_or (map (action_comes ds) (actions ds)) n [])
action_there ds none n lt =
    let a = get_within (actions ds) n lt in
    subst (λ l. ActionExpands ds n l) (sym (mapped (action_comes ds) [] (actions ds) n a.0 a.1)) (record {
      action = a.0;
      numbered = a.1;
      expands = calls_come ds (length (actions ds)) (invocations_of a.0) (λ m h. actions_deep ds none a.0 m h);
    })

listed : (o : Option FieldList) (items : List Item) → option_map items_in o ≡ Some items → (f : FieldList) × (o ≡ Some f) × (f.items ≡ items)
listed None items e = absurd (cc e)
listed (Some f) items e = (f, refl, cc e)

list_there : (ds : List Decl) → BreaksNone ds program_rules → (n : ℕ) (items : List Item) → items_at ds n ≡ Some items → Expands ds items (slice_index_or (map (list_comes ds) (lists ds)) n [])
list_there ds none n items is =
    let f = listed (slice_get (lists ds) n) items is in
    subst (λ l. Expands ds items l) (sym (mapped (list_comes ds) [] (lists ds) n f.0 f.1))
    (subst (λ l. Expands ds l (list_comes ds f.0)) f.2
    (items_come ds (length (lists ds)) f.0.items (λ m h. lists_deep ds none f.0.items m h)))

pipeline_by : (ds : List Decl) → BreaksNone ds program_rules → (n : Option ℕ) → MatchOption (option_and_then (slice_get (controls ds)) n) (option_map_or (control_comes ds) (option_and_then (slice_get (controls ds)) n) no_statements ≡ no_statements) (λ (c : ControlTree). StatementExpands ds c.body (option_map_or (control_comes ds) (option_and_then (slice_get (controls ds)) n) no_statements))
pipeline_by ds none None = refl
pipeline_by ds none (Some n) = by_control (slice_get (controls ds) n) refl where
  by_control : (o : Option ControlTree) → slice_get (controls ds) n ≡ o → MatchOption o (option_map_or (control_comes ds) o no_statements ≡ no_statements) (λ (c : ControlTree). StatementExpands ds c.body (option_map_or (control_comes ds) o no_statements))
  by_control None is = refl
  by_control (Some c) is = body_comes ds (accepted_there ds none) (length (controls ds)) n c is (λ m h. controls_deep ds none n m h)

pipeline_there : (ds : List Decl) → BreaksNone ds program_rules → (name : Name) → PipelineExpands ds name (pipeline_comes ds name)
pipeline_there ds none name = pipeline_by ds none (control_number ds name)

pub comes_to_something : (ds : List Decl) (order : List ℕ) → BreaksNone ds program_rules → Order ds order → IsExpanded ds (expansion ds order)
unfolding expansion
comes_to_something ds order none ordered = record {
  all_actions = length-map (actions ds) (action_comes ds);
  each_action = action_there ds none;
  all_lists = length-map (lists ds) (list_comes ds);
  each_list = list_there ds none;
  to_ingress = pipeline_there ds none ingress;
  to_egress = pipeline_there ds none egress;
  to_order = ordered;
}

-- and there is no other

abbrev put_together : List (List Invocation) → List (List Item) → Stmt → Stmt → List ℕ → Expanded
put_together a l i e o = record { actions = a; lists = l; ingress = i; egress = e; order = o }

items_there : (ds : List Decl) (n : ℕ) → n < length (lists ds) → (items : List Item) × (items_at ds n ≡ Some items)
items_there ds n lt = let f = get_within (lists ds) n lt in (f.0.items, ap (option_map items_in) f.1)

pub comes_to_one_thing : (ds : List Decl) (x y : Expanded) → IsExpanded ds x → IsExpanded ds y → x ≡ y
comes_to_one_thing ds x y e f =
    let actions_are : x.actions ≡ y.actions =
    same_lists [] x.actions y.actions (e.all_actions ∙ sym f.all_actions)
    (λ n lt.
    let within : n < length (actions ds) = subst (λ (m : ℕ). n < m) e.all_actions lt in
    action_once ds n (primitives_at x n) (primitives_at y n) (e.each_action n within) (f.each_action n within)) in
    let lists_are : x.lists ≡ y.lists =
    same_lists [] x.lists y.lists (e.all_lists ∙ sym f.all_lists)
    (λ n lt.
    let within : n < length (lists ds) = subst (λ (m : ℕ). n < m) e.all_lists lt in
    let items = items_there ds n within in
    items_once ds items.0 (items_in_list x n) (items_in_list y n) (e.each_list n items.0 items.1) (f.each_list n items.0 items.1)) in
    let ingress_is : x.ingress ≡ y.ingress = pipeline_once ds ingress x.ingress y.ingress e.to_ingress f.to_ingress in
    let egress_is : x.egress ≡ y.egress = pipeline_once ds egress x.egress y.egress e.to_egress f.to_egress in
    let order_is : x.order ≡ y.order = order_once ds x.order y.order e.to_order f.to_order in
    ap (λ (a : List (List Invocation)). put_together a x.lists x.ingress x.egress x.order) actions_are
    ∙ (ap (λ (l : List (List Item)). put_together y.actions l x.ingress x.egress x.order) lists_are
    ∙ (ap (λ (i : Stmt). put_together y.actions y.lists i x.egress x.order) ingress_is
    ∙ (ap (λ (g : Stmt). put_together y.actions y.lists y.ingress g x.order) egress_is
    ∙ ap (λ (o : List ℕ). put_together y.actions y.lists y.ingress y.egress o) order_is)))
