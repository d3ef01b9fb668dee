-- T9: a key's kind isn't exact, ternary, lpm or range; a table has two lpm keys, over 64 keys, a default or a `switch` label
-- outside its actions, two actions of one control-plane name, or an action with a directed parameter or with one that isn't
-- bits; an action has a directed parameter behind one without a direction; a direct counter belongs to two tables, or is
-- counted by an action outside its table; two tables or two objects have one control-plane name (P4_16 1.2, "Tables",
-- "Actions", "Switch statement", "Control-plane API annotations"; `v1model.p4`; the limits are this project's own). An
-- action that a table lists twice is one action, and a label may stand twice.
use Rattle.std.specs.Prelude.{Bool, true, false, not, ◌&&◌, ◌||◌, nat_lt, List, [], ◌∷◌, length, map, filter, filter_map, flat_map, count_by, Some, codes}
use Rattle.std.specs.List.{list_any}
use Rattle.std.specs.Option.{option_map_or}
use Rattle.std.specs.Str.{bytes_eq}
use Rattle.p416_syntax.specs.declared.parts.Param.{Param}
use Rattle.p416_syntax.specs.declared.node.CaseLabel.{CaseLabel}
use Rattle.p416_syntax.specs.declared.node.CaseLabel.TheVariants as label
use Rattle.p416_syntax.specs.declared.controls.ActionName.{ActionName}
use Rattle.p416_syntax.specs.declared.controls.ActionName.TheVariants as action_name
use Rattle.p416_syntax.specs.declared.controls.TableKey.{TableKey}
use Rattle.p416_syntax.specs.declared.controls.Table16.{Table16}
use Rattle.p416_syntax.specs.declared.controls.Local.{Local}
use Rattle.p416_syntax.specs.declared.controls.Local.TheVariants as local
use Rattle.p416_syntax.specs.declared.program.Decl16.{Decl16}
use Rattle.p416_syntax.specs.declared.program.Decl16.TheVariants as decl
use Rattle.p416_syntax.specs.Properties.{keys_of, actions_of, default_action_of}
use Rattle.p416_syntax.specs.Tree.{Exp16, name, member}
use Rattle.p416_syntax.specs.Names.{Name, has_name, repeats}
use Rattle.p416_syntax.specs.Kinds.{Kind, object, direct_counter, is_bits}
use Rattle.p416_syntax.specs.Scopes.{Handed, Sort, an_action, a_table, Known, called_of, Scope, sort_of, Part, in_action, is_directed, plane_name}
use Rattle.p416_syntax.specs.Calls.{Place, callee}
use Rattle.p416_syntax.specs.Expressions.{kind_of}
use Rattle.p416_syntax.specs.Uses.{Use, an_expression, a_switch, some_parameters, some_counters, a_table_of}
use Rattle.p416_syntax.specs.Declarations.{parameters_of, tables_in, counters_in, control_names, instance_name}

-- keys

abbrev pub match_kinds : List Name
match_kinds = codes "exact" ∷ codes "ternary" ∷ codes "lpm" ∷ codes "range" ∷ []

abbrev pub is_bad_key : TableKey → Bool
is_bad_key k = not (has_name match_kinds k.kind)

abbrev pub is_prefix_key : TableKey → Bool
is_prefix_key k = bytes_eq k.kind (codes "lpm")

abbrev pub has_bad_keys : List TableKey → Bool
has_bad_keys ks = list_any is_bad_key ks || (nat_lt 1 (count_by is_prefix_key ks) || nat_lt 64 (length ks))

-- the actions that a table lists

abbrev pub is_not_given : Handed → Bool
is_not_given h = h.is_directed || not (is_bits h.kind)

abbrev pub is_bad_action : Scope → ActionName → Bool
is_bad_action s a = list_any is_not_given (parameters_of s a)

abbrev pub is_same_action : ActionName → ActionName → Bool
is_same_action (action_name.Declared a) (action_name.Declared b) = bytes_eq a b
is_same_action action_name.NoAction action_name.NoAction = true
is_same_action _ _ = false

-- the control-plane name of an action; `NoAction` is known by its own
abbrev pub sort_plane : Name → Sort → Name
sort_plane text (an_action plane parameters) = plane
sort_plane text _ = text

abbrev pub action_plane : Scope → ActionName → Name
action_plane s (action_name.Declared text) = sort_plane text (sort_of s text)
action_plane s action_name.NoAction = codes "NoAction"

abbrev pub is_mixed_up : Scope → ActionName → ActionName → Bool
is_mixed_up s a b = not (is_same_action a b) && bytes_eq (action_plane s a) (action_plane s b)

abbrev pub mixes_up : Scope → List ActionName → Bool
mixes_up s [] = false
mixes_up s (a ∷ actions) = list_any (is_mixed_up s a) actions || mixes_up s actions

abbrev pub is_outside_actions : List ActionName → ActionName → Bool
is_outside_actions actions a = not (list_any (is_same_action a) actions)

abbrev pub has_bad_actions : Scope → List ActionName → Bool
has_bad_actions s actions = list_any (is_bad_action s) actions || mixes_up s actions

abbrev pub is_bad_table : Scope → Table16 → Bool
is_bad_table s t =
    has_bad_keys (keys_of t.properties) || has_bad_actions s (actions_of t.properties)
    || option_map_or (is_outside_actions (actions_of t.properties)) (default_action_of t.properties) false

-- labels of `switch`

abbrev pub is_outside_label : List ActionName → CaseLabel → Bool
is_outside_label actions label.Default = false
is_outside_label actions (label.Action text) = is_outside_actions actions (action_name.Declared text)

abbrev pub listed_by : Sort → List ActionName
listed_by (a_table actions counters) = actions
listed_by _ = []

-- parameters: those with a direction stand first

abbrev pub is_directed_parameter : Param → Bool
is_directed_parameter p = is_directed p.direction

abbrev pub is_behind : List Param → Bool
is_behind [] = false
is_behind (p ∷ parameters) =
    (not (is_directed_parameter p) && list_any is_directed_parameter parameters) || is_behind parameters

-- direct counters

-- a declared name is a table that has this direct counter and lists this action
abbrev pub counts_in : Name → Name → Sort → Bool
counts_in text action (a_table actions (Some counters)) =
    bytes_eq counters text && not (is_outside_actions actions (action_name.Declared action))
counts_in text action _ = false

abbrev pub is_counted_by : Name → Name → Known → Bool
is_counted_by text action k = counts_in text action k.sort

abbrev pub counts_outside : List Known → Part → Name → Bool
counts_outside names (in_action action) text = not (list_any (is_counted_by text action) names)
counts_outside names _ text = false

abbrev pub is_direct_counter : Kind → Bool
is_direct_counter (object direct_counter) = true
is_direct_counter _ = false

abbrev pub is_counted_outside : Scope → Place → Exp16 → Bool
is_counted_outside s callee (member (name text) word) =
    is_direct_counter (kind_of s (name text)) && counts_outside s.names s.part text
is_counted_outside s _ _ = false

-- what is judged breaks T9
abbrev pub is_bad_in_table : Use → Bool
is_bad_in_table (an_expression s p e) = is_counted_outside s p e
is_bad_in_table (a_switch s text labels) = list_any (is_outside_label (listed_by (sort_of s text))) labels
is_bad_in_table (some_parameters parameters) = is_behind parameters
is_bad_in_table (some_counters names) = repeats names
is_bad_in_table (a_table_of s t) = is_bad_table s t
is_bad_in_table _ = false

-- the rest of T9, over the whole program

abbrev pub table_plane : Table16 → Name
table_plane t = plane_name t.notes t.name

abbrev pub tables_of : Decl16 → List Table16
tables_of (decl.Control c) = tables_in c
tables_of _ = []

abbrev pub local_object : Local → List Name
local_object (local.Instance notes i) = plane_name notes (instance_name i) ∷ []
local_object _ = []

abbrev pub objects_of : Decl16 → List Name
objects_of (decl.Instance notes i) = plane_name notes (instance_name i) ∷ []
objects_of (decl.Control c) = flat_map local_object c.locals
objects_of _ = []

-- the direct counters of a control's tables that the control doesn't declare itself
abbrev pub is_not_among : List Name → Name → Bool
is_not_among names text = not (has_name names text)

abbrev pub outer_counters : Decl16 → List Name
outer_counters (decl.Control c) =
    filter (is_not_among (map called_of (control_names [] c))) (filter_map counters_in (tables_in c))
outer_counters _ = []

abbrev pub has_shared_names : List Decl16 → Bool
has_shared_names ds =
    repeats (map table_plane (flat_map tables_of ds)) || repeats (flat_map objects_of ds)
    || repeats (flat_map outer_counters ds)
