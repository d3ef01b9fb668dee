-- Which ready table a table is (P4_16 1.2, "Tables"), by what its parts are found by: the control-plane names of all tables and objects
-- in order, the objects of its control, and the names of the actions of its control.
use Rattle.std.specs.Prelude.{◌≡◌, ℕ, List, filter_map, Option, Some, None, option_map, option_and_then}
use Rattle.name_numbers.specs.Names.{find_name}
use Rattle.p416_syntax.specs.declared.controls.TableKey.{TableKey}
use Rattle.p416_syntax.specs.declared.controls.Table16.{Table16}
use Rattle.p416_syntax.specs.Properties.{keys_of, actions_of, counters_of, default_action_of}
use Rattle.p416_syntax.specs.Names.{Name}
use Rattle.p416_syntax.specs.Scopes.{Scope}
use Rattle.p416_syntax.specs.Calls.{table_key}
use Rattle.p416_syntax.specs.Declarations.{is_exact}
use Rattle.p416_syntax.specs.Tables.{table_plane}
use Rattle.v1_core.specs.Signatures.{own_object, action_with, planes_of, place_among, table_names}
use Rattle.v1_core.specs.Tables.{listed_name, own_default}
use Rattle.v1_core.specs.Tables as meaning
use Rattle.v1_core.specs.Ready.{Ready}
use Rattle.v1_ready_forms.specs.Named.{NamedSeat}
use Rattle.v1_ready_forms.specs.Expressions.{ready_of_exp}
use Rattle.v1_ready_blocks.specs.Tables.{Chosen, Table}
use Rattle.v1_ready_statements.specs.Around.{Around, action_found}
use Rattle.v1_ready_statements.specs.Blocks.{all_of, key_ready, number_in, with_parts}
use Rattle.p416_signature.specs.internal.Gathered.{AreObjects, objects_seen, number_in as object_in}
use Rattle.v1_ready_tables.specs.declared.names.TableNames.{TableNames}

-- a key in a scope of keys
abbrev pub key_within : Scope → List NamedSeat → TableKey → Option Ready
key_within s seats k = ready_of_exp s seats (table_key (is_exact k)) k.exp

-- where the actions of the control have these names: the number of the first action that a table lists by a control-plane name
abbrev pub number_listed : List Name → Scope → Table16 → Name → Option ℕ
number_listed names s t plane = find_name names (listed_name (action_with s (actions_of t.properties) plane))

abbrev pub with_number : meaning.Chosen → ℕ → Chosen
with_number k number = record { action = number; number = k.number; arguments = k.arguments }

abbrev pub chosen_by : List Name → meaning.Chosen → Option Chosen
chosen_by names k = option_map (with_number k) (find_name names k.called)

-- none of the actions is missing
abbrev pub default_by : List Name → Option meaning.Chosen → Option (Option Chosen)
default_by names None = Some None
default_by names (Some k) = option_map (λ c. Some c) (chosen_by names k)

abbrev pub table_by : TableNames → Scope → List NamedSeat → Table16 → Option Table
table_by n s seats t =
    with_parts (place_among n.tables.now (table_plane t)) (option_map (object_in n.objects.now (objects_seen n.own.now)) (counters_of t.properties))
    (all_of (key_ready s seats) (keys_of t.properties)) (all_of (number_listed n.actions.now s t) (planes_of s t))
    (default_by n.actions.now (option_and_then (own_default s t) (default_action_of t.properties)))

-- these are the names that the tables of a block find their parts by
pub record AreNames (b : Around) (n : TableNames) : Type 0 where
  pub tables : n.tables.now ≡ table_names b.syntax
  pub own : objects_seen n.own.now ≡ filter_map own_object b.locals
  pub objects : AreObjects b.syntax n.objects.now
  pub actions : (text : Name) → find_name n.actions.now text ≡ option_map number_in (action_found b text)
