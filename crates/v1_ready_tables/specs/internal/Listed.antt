-- The actions that a table lists, by their names and their control-plane names.
use Rattle.std.specs.Prelude.{ℕ, List, [], slice_get, Option, Some, None, map, option_and_then}
use Rattle.std.specs.Option.{option_map_or}
use Rattle.name_numbers.specs.Names.{find_name}
use Rattle.p416_syntax.specs.declared.controls.ActionName.{ActionName}
use Rattle.p416_syntax.specs.declared.controls.ActionName.TheVariants as action_name
use Rattle.p416_syntax.specs.declared.controls.Table16.{Table16}
use Rattle.p416_syntax.specs.Properties.{default_arguments_of}
use Rattle.p416_syntax.specs.Names.{Name}
use Rattle.p416_syntax.specs.Scopes.{Scope}
use Rattle.p416_syntax.specs.Tables.{action_plane}
use Rattle.p416_syntax.specs.Totals.{size_value}
use Rattle.p416_syntax.specs.Uses.{arguments_of}
use Rattle.v1_core.specs.Signatures.{planes_of, place_among}
use Rattle.v1_core.specs.Tables.{Chosen}
use Rattle.v1_ready_tables.specs.declared.listed.ListedAction.{ListedAction}

pub record Listed : Type 0 where
  pub name : Name
  pub plane : Name

abbrev pub seen_listed : ListedAction → Listed
seen_listed a = record { name = a.name.now; plane = a.plane.now }

abbrev pub row_plane : Listed → Name
row_plane x = x.plane

abbrev pub row_name : Listed → Name
row_name x = x.name

abbrev pub declared_as : Scope → Name → Listed
declared_as s text = record { name = text; plane = action_plane s (action_name.Declared text) }

abbrev pub listed_in : Scope → ActionName → Option Listed
listed_in s (action_name.Declared text) = Some (declared_as s text)
listed_in s action_name.NoAction = None

-- the name of the first of these with a control-plane name, where these are their control-plane names
abbrev pub name_among : List Listed → List Name → Name → Name
name_among rows planes plane = option_map_or row_name (option_and_then (slice_get rows) (find_name planes plane)) []

-- its number among the actions of the control
abbrev pub number_among : List Name → List Listed → List Name → Name → Option ℕ
number_among actions rows planes plane = find_name actions (name_among rows planes plane)

-- the action of this name as the default of a table
abbrev pub own_chosen : Scope → Table16 → Name → Chosen
own_chosen s t text = record {
  called = text;
  number = place_among (planes_of s t) (action_plane s (action_name.Declared text));
  arguments = map size_value (option_map_or arguments_of (default_arguments_of t.properties) []);
}
