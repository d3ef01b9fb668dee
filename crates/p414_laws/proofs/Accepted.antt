-- What the rules say of a program that breaks none of them, and how many nodes its graphs have.
use Rattle.std.proofs.Common.{◌≡◌, ℕ, suc, ◌<◌, Bool, true, false, cond, inl, inr, List, [], ◌∷◌, length, map, slice_get, Option, Some, None, refl, sym, ap, ◌∙◌, arith}
use Rattle.std.specs.List.{cons_option}
use Rattle.std.specs.Option.{option_map_or}
use Rattle.std.specs.Prelude.{filter_map, flat_map, IsTrue}
use Rattle.std.specs.Str.{bytes_eq}
use Rattle.std.proofs.lemmas.List.{length-map}
use Rattle.std.proofs.lemmas.List.Quantifiers.{position-Some}
use Rattle.digraph.specs.Graphs.{Among}
use Rattle.p414_syntax.specs.declared.actions.Action.{Action}
use Rattle.p414_syntax.specs.declared.calculations.Item.{Item}
use Rattle.p414_syntax.specs.declared.calculations.Item.TheVariants as item
use Rattle.p414_syntax.specs.declared.syntax.Decl.{Decl}
use Rattle.p414_syntax.specs.declared.syntax.Decl.TheVariants as decl
use Rattle.p414_syntax.specs.declared.syntax.Sort.TheVariants as sort
use Rattle.p414_syntax.specs.Subtrees.{subtrees}
use Rattle.p414_syntax.specs.Views.{ControlTree}
use Rattle.p414_syntax.specs.Names.{Name, names_in}
use Rattle.p414_syntax.specs.Arguments.{action_number, actions, invocations_of}
use Rattle.p414_syntax.specs.ActionExpansion.{actions_called_by, called_in, callee_number}
use Rattle.p414_syntax.specs.Actions.{ActionCallsItself}
use Rattle.p414_syntax.specs.Breaks.{BreaksNone, IsBroken, program_rules}
use Rattle.p414_syntax.specs.ControlExpansion.{calls_in, controls, controls_called_by, control_name, control_number, own_call}
use Rattle.p414_syntax.specs.Controls.{ControlCallsItself}
use Rattle.p414_syntax.specs.Expansion.{held_by, inner_number, inner_numbers, items_at, list_name, list_number, lists}
use Rattle.p414_syntax.specs.Lists.{HoldsItself}
use Rattle.p414_syntax.specs.Unknown.{has_unknown_name}
use Rattle.p414_control_check.proofs.Expanding.{AllAreThere}
use Rattle.p414_laws.proofs.Declared.{all_there}
use Rattle.p414_laws.proofs.Depths.{IsDeep, is_deep}

unknown_none : (ds : List Decl) → BreaksNone ds program_rules → IsTrue (has_unknown_name ds) → ⊥
unfolding IsBroken
unknown_none ds none t = none.1.0 t

pub accepted_there : (ds : List Decl) → BreaksNone ds program_rules → AllAreThere ds
accepted_there ds none = all_there ds (unknown_none ds none)

no_list : (ds : List Decl) → BreaksNone ds program_rules → HoldsItself ds → ⊥
unfolding IsBroken
no_list ds none itself = none.1.1.1.1.1.1.1.0 (inr (inl itself))

no_action : (ds : List Decl) → BreaksNone ds program_rules → ActionCallsItself ds → ⊥
unfolding IsBroken
no_action ds none itself = none.1.1.1.1.1.1.1.1.1.1.1.1.1.1.0 (inl itself)

no_control : (ds : List Decl) → BreaksNone ds program_rules → ControlCallsItself ds → ⊥
unfolding IsBroken
no_control ds none itself = none.1.1.1.1.1.1.1.1.1.1.1.1.1.1.1.0 (inl itself)

-- numbers that are found are within

found_first : {X : Type 0} (f : X → Option ℕ) (b count : ℕ) (x : X) (rest : List ℕ) (o : Option ℕ) → f x ≡ o → ((y : X) → f y ≡ Some b → b < count) → (Among b rest → b < count) → Among b (cons_option o rest) → b < count
found_first f b count x rest None is h more a = more a
found_first f b count x rest (Some n) is h more (inl e) = h x (is ∙ ap Some (sym e))
found_first f b count x rest (Some n) is h more (inr a) = more a

among_found : {X : Type 0} (f : X → Option ℕ) (b count : ℕ) (xs : List X) → ((x : X) → f x ≡ Some b → b < count) → Among b (filter_map f xs) → b < count
among_found f b count [] h a = absurd a
among_found f b count (x ∷ xs) h a =
    found_first f b count x (filter_map f xs) (f x) refl h (among_found f b count xs h) a

list_within : (ds : List Decl) (name : Name) (l : ℕ) → list_number ds name ≡ Some l → l < length (lists ds)
list_within ds name l e =
    let within : l < length (map list_name (lists ds)) = (position-Some (bytes_eq name) (map list_name (lists ds)) l [] e).0 in
    let same : length (map list_name (lists ds)) ≡ length (lists ds) = length-map (lists ds) list_name in
    omega arith

of_choice : (b : Bool) (o : Option ℕ) (l : ℕ) → cond b None o ≡ Some l → o ≡ Some l
of_choice true o l e = absurd (cc e)
of_choice false o l e = e

inner_within : (ds : List Decl) (i : Item) (l : ℕ) → inner_number ds i ≡ Some l → l < length (lists ds)
inner_within ds (item.Instance x) l e = list_within ds x.name l (of_choice _ (list_number ds x.name) l e)
inner_within ds item.Payload l e = absurd (cc e)
inner_within ds (item.Number n) l e = absurd (cc e)
inner_within ds (item.Field r) l e = absurd (cc e)

items_within : (ds : List Decl) (items : List Item) (b : ℕ) → Among b (inner_numbers ds items) → b < length (lists ds)
items_within ds items b a = among_found (inner_number ds) b (length (lists ds)) items (λ i e. inner_within ds i b e) a

held_within : (ds : List Decl) (b : ℕ) (o : Option (List Item)) → Among b (option_map_or (inner_numbers ds) o []) → b < length (lists ds)
held_within ds b None a = absurd a
held_within ds b (Some items) a = items_within ds items b a

pub lists_deep : (ds : List Decl) → BreaksNone ds program_rules → (items : List Item) (n : ℕ) → Among n (inner_numbers ds items) → IsDeep (held_by ds) (length (lists ds)) n
lists_deep ds none items n a =
    is_deep (held_by ds) (λ l between cycle. no_list ds none (l, between, cycle)) (length (lists ds))
    (λ l b edge. held_within ds b (items_at ds l) edge) n (items_within ds items n a)

-- actions

name_count : (ds : List Decl) → length (names_in sort.Action ds) ≡ length (actions ds)
name_count [] = refl
name_count (decl.Action x ∷ ds) = ap suc (name_count ds)
name_count (decl.Table x ∷ ds) = name_count ds
name_count (decl.FieldList x ∷ ds) = name_count ds
name_count (decl.HeaderType x ∷ ds) = name_count ds
name_count (decl.Header x ∷ ds) = name_count ds
name_count (decl.Metadata x ∷ ds) = name_count ds
name_count (decl.FieldListCalculation x ∷ ds) = name_count ds
name_count (decl.CalculatedField x ∷ ds) = name_count ds
name_count (decl.Parser x ∷ ds) = name_count ds
name_count (decl.Counter x ∷ ds) = name_count ds
name_count (decl.Meter x ∷ ds) = name_count ds
name_count (decl.Register x ∷ ds) = name_count ds
name_count (decl.Control x ∷ ds) = name_count ds
name_count (decl.LeftOut x ∷ ds) = name_count ds

action_within : (ds : List Decl) (name : Name) (n : ℕ) → action_number ds name ≡ Some n → n < length (actions ds)
action_within ds name n e =
    let within : n < length (names_in sort.Action ds) = (position-Some (bytes_eq name) (names_in sort.Action ds) n [] e).0 in
    let same : length (names_in sort.Action ds) ≡ length (actions ds) = name_count ds in
    omega arith

called_within : (ds : List Decl) (a : Action) (b : ℕ) → Among b (called_in ds a) → b < length (actions ds)
called_within ds a b h =
    among_found (callee_number ds) b (length (actions ds)) (invocations_of a) (λ i e. action_within ds i.callee b e) h

by_action : (ds : List Decl) (b : ℕ) (o : Option Action) → Among b (option_map_or (called_in ds) o []) → b < length (actions ds)
by_action ds b None a = absurd a
by_action ds b (Some x) a = called_within ds x b a

pub actions_deep : (ds : List Decl) → BreaksNone ds program_rules → (a : Action) (n : ℕ) → Among n (called_in ds a) → IsDeep (actions_called_by ds) (length (actions ds)) n
actions_deep ds none a n h =
    is_deep (actions_called_by ds) (λ x between cycle. no_action ds none (x, between, cycle)) (length (actions ds))
    (λ x b edge. by_action ds b (slice_get (actions ds) x) edge) n (called_within ds a n h)

-- controls

control_within : (ds : List Decl) (name : Name) (n : ℕ) → control_number ds name ≡ Some n → n < length (controls ds)
control_within ds name n e =
    let within : n < length (map control_name (controls ds)) = (position-Some (bytes_eq name) (map control_name (controls ds)) n [] e).0 in
    let same : length (map control_name (controls ds)) ≡ length (controls ds) = length-map (controls ds) control_name in
    omega arith

calls_within : (ds : List Decl) (c : ControlTree) (b : ℕ) → Among b (calls_in ds c) → b < length (controls ds)
calls_within ds c b h =
    among_found (control_number ds) b (length (controls ds)) (flat_map own_call (subtrees c.body)) (λ name e. control_within ds name b e) h

by_control : (ds : List Decl) (b : ℕ) (o : Option ControlTree) → Among b (option_map_or (calls_in ds) o []) → b < length (controls ds)
by_control ds b None a = absurd a
by_control ds b (Some x) a = calls_within ds x b a

pub controls_deep : (ds : List Decl) → BreaksNone ds program_rules → (c n : ℕ) → Among n (controls_called_by ds c) → IsDeep (controls_called_by ds) (length (controls ds)) n
controls_deep ds none c n h =
    is_deep (controls_called_by ds) (λ x between cycle. no_control ds none (x, between, cycle)) (length (controls ds))
    (λ x b edge. by_control ds b (slice_get (controls ds) x) edge) n (by_control ds n (slice_get (controls ds) c) h)
