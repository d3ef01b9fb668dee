-- Which sorts of declarations the names ask for, and the names of parsers and controls.
use Rattle.std.specs.Prelude.{ℕ, ◌+◌, List, Option, Some, None, if◌then◌else◌, [], ◌∷◌, ◌++◌, map, flat_map, option_to_list, get_or}
use Rattle.std.specs.List.{list_any}
use Rattle.p416_syntax.specs.declared.node.CaseLabel.{CaseLabel}
use Rattle.p416_syntax.specs.declared.parsers.Simple.{Simple}
use Rattle.p416_syntax.specs.declared.parsers.Var.{Var}
use Rattle.p416_syntax.specs.declared.controls.Action16.{Action16}
use Rattle.p416_syntax.specs.declared.controls.Local.{Local}
use Rattle.p416_syntax.specs.declared.controls.Local.TheVariants as local
use Rattle.p416_syntax.specs.declared.controls.TableKey.{TableKey}
use Rattle.p416_syntax.specs.declared.controls.Table16.{Table16}
use Rattle.p416_syntax.specs.Properties.{actions_of, size_of, counters_of, default_action_of, default_arguments_of}
use Rattle.p416_syntax.specs.declared.rule.ProgramRule.{ProgramRule}
use Rattle.p416_syntax.specs.declared.rule.ProgramRule.TheVariants.{T2, T8, T9}
use Rattle.p416_syntax.specs.Names.{Name}
use Rattle.p416_syntax.specs.Kinds.{Kind, unknown}
use Rattle.p416_syntax.specs.Scopes.{Scope, sort_of}
use Rattle.p416_syntax.specs.Applications.{applies_nothing}
use Rattle.p416_syntax.specs.Tables.{is_outside_label, listed_by}
use Rattle.p416_syntax.specs.Calls.{table_key}
use Rattle.p416_syntax.specs.Sizes.{is_no_octets}
use Rattle.p416_syntax.specs.Uses as rule
use Rattle.p416_syntax.specs.Uses.{Use, a_name, a_number, names_of_scope, some_parameters, some_direct_counter, of_action_parameter, uses}
use Rattle.p416_syntax.specs.Declarations.{instance_name, is_exact, note_uses, action_name_uses, defaults_of, parameter_name, parameter_uses}
use Rattle.p416_uses.specs.declared.names.Wanted.{Wanted}
use Rattle.p416_uses.specs.declared.names.Wanted.TheVariants as wanted

abbrev pub seen_wanted : Wanted → rule.WantedSort
seen_wanted wanted.Action = rule.some_action
seen_wanted wanted.Table = rule.some_table
seen_wanted wanted.State = rule.some_state
seen_wanted wanted.DirectCounter = rule.some_direct_counter

abbrev pub var_name : Var → Name
var_name v = v.name

abbrev pub local_name : Local → Name
local_name (local.Instance notes i) = instance_name i
local_name (local.Var v) = v.name
local_name (local.Action a) = a.name
local_name (local.Table t) = t.name

-- each part of a keyset with its key, or with a kind that isn't known where there is no key for it
abbrev pub key_at : List Kind → ℕ → Kind
key_at keys n = get_or keys n unknown

abbrev pub paired : List Kind → ℕ → List Simple → List (Kind × Simple)
paired keys n [] = []
paired keys n (p ∷ parts) = (key_at keys n, p) ∷ paired keys (n + 1) parts

-- a key in a scope of keys, and what a table has besides its keys

abbrev pub key_uses_in : Scope → TableKey → List Use
key_uses_in s k = uses s (table_key (is_exact k)) k.exp ++ note_uses k.notes

abbrev pub rest_uses : Scope → Table16 → List Use
rest_uses s t =
    flat_map (action_name_uses s) (actions_of t.properties) ++ map a_number (option_to_list (size_of t.properties))
    ++ map (a_name s some_direct_counter) (option_to_list (counters_of t.properties))
    ++ defaults_of s (default_action_of t.properties) (default_arguments_of t.properties)

-- what is judged in an action, but for its statements
abbrev pub head_uses : Scope → Action16 → List Use
head_uses s a =
    note_uses a.notes ++ names_of_scope (map parameter_name a.parameters) ∷ some_parameters a.parameters
    ∷ flat_map (parameter_uses s of_action_parameter) a.parameters

-- the rule that a header breaks as a whole, given how many bits its fields have together
abbrev pub bits_rule : Option ℕ → Option ProgramRule
bits_rule (Some n) = if is_no_octets n then Some T2 else None
bits_rule None = None

-- the first rule that a `switch` breaks by where it stands and by its labels
abbrev pub switch_rule : Scope → Name → List CaseLabel → Option ProgramRule
switch_rule s text labels =
    if applies_nothing s.part then Some T8 else if list_any (is_outside_label (listed_by (sort_of s text))) labels then Some T9 else None

-- the name of the direct counter of what a control declares, where it is a table that has one
abbrev pub counters_by : Local → Option Name
counters_by (local.Table t) = counters_of t.properties
counters_by declared = None
