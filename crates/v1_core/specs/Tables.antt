-- Tables: their keys, the entry that is hit, the action that runs (P4_16 1.2, "Tables", "Match-action unit invocation",
-- "Match-action unit execution semantics", "Invoking actions"; `v1model.p4`, `direct_counter`). A miss runs the default of
-- the entries, which is this project's own, else the table's `default_action`, else `NoAction`. A direct counter counts where its action says so.
use Rattle.std.specs.Prelude.{ℕ, false, is_some, List, [], ◌∷◌, map, slice_index_or, Option, Some, None, option_map, option_and_then}
use Rattle.std.specs.Option.{option_map_or}
use Rattle.match_core.specs.declared.entries.Entry.{Entry}
use Rattle.match_core.specs.declared.entries.DefaultCall.{DefaultCall}
use Rattle.match_core.specs.declared.entries.TableFill.{TableFill}
use Rattle.match_core.specs.Best.{best, entry_at}
use Rattle.match_core.specs.Tables.{filled_of}
use Rattle.p416_syntax.specs.declared.parts.Param.{Param}
use Rattle.p416_syntax.specs.declared.controls.Action16.{Action16}
use Rattle.p416_syntax.specs.declared.controls.ActionName.{ActionName}
use Rattle.p416_syntax.specs.declared.controls.ActionName.TheVariants as action_name
use Rattle.p416_syntax.specs.declared.controls.TableKey.{TableKey}
use Rattle.p416_syntax.specs.declared.controls.Table16.{Table16}
use Rattle.p416_syntax.specs.Properties.{keys_of, actions_of, default_action_of, default_arguments_of}
use Rattle.p416_syntax.specs.Names.{Name}
use Rattle.p416_syntax.specs.Scopes.{Scope, kind_of_type}
use Rattle.p416_syntax.specs.Calls.{table_key}
use Rattle.p416_syntax.specs.Declarations.{is_exact}
use Rattle.p416_syntax.specs.Uses.{arguments_of}
use Rattle.p416_syntax.specs.Tables.{action_plane}
use Rattle.p416_syntax.specs.Totals.{size_value as literal_in}
use Rattle.v1_core.specs.Values.{Value, a_number, a_member, no_members, as_number, fitted, zero_value}
use Rattle.v1_core.specs.Frames.{Hit, Moment, with_frame, with_inner, with_event}
use Rattle.v1_core.specs.Signatures.{planes_of, place_among, action_with, key_scope, table_sig, table_number}
use Rattle.v1_core.specs.Surroundings.{Surroundings, Applied, quiet_world, action_named, table_named}
use Rattle.v1_core.specs.Expressions.{value_of}

-- keys: their expressions see the block's own names, and change nothing: no table is applied in them, and outside of a parser
-- there are no errors
abbrev pub key_value : Surroundings → Moment → TableKey → ℕ
key_value b m k =
    as_number (value_of (quiet_world b) (key_scope b.scope) (table_key (is_exact k)) k.exp (with_inner no_members m)).value

abbrev pub key_values : Surroundings → Moment → Table16 → List ℕ
key_values b m t = map (key_value b m) (keys_of t.properties)

-- what the entries file fills a table with

abbrev pub no_fill : TableFill
no_fill = record { entries = []; default = None }

abbrev pub fill_of : Surroundings → Table16 → TableFill
fill_of b t = slice_index_or b.setting.entries.tables (table_number b.setting.syntax t) no_fill

-- the entry that is hit, by its number
abbrev pub found : Surroundings → Moment → Table16 → Option ℕ
found b m t =
    best (filled_of (table_sig b.setting.syntax b.locals b.scope t) (fill_of b t)) (key_values b m t)

-- which action runs

-- an action that a table lists, but for `NoAction`: its name, its number among those of the table in the signature, and the
-- numbers of its arguments
pub record Chosen : Type 0 where
  pub called : Name
  pub number : ℕ
  pub arguments : List ℕ

abbrev pub listed_name : ActionName → Name
listed_name (action_name.Declared text) = text
listed_name action_name.NoAction = []

-- the name of the action with this number
abbrev pub name_of_number : Scope → Table16 → ℕ → Name
name_of_number s t number =
    listed_name (action_with s (actions_of t.properties) (slice_index_or (planes_of s t) number []))

abbrev pub chosen_by : Scope → Table16 → ℕ → List ℕ → Chosen
chosen_by s t number arguments =
    record { called = name_of_number s t number; number = number; arguments = arguments }

-- the action of an entry, and of the default of the entries
abbrev pub chosen_entry : Scope → Table16 → Entry → Chosen
chosen_entry s t e = chosen_by s t e.action e.arguments

abbrev pub chosen_default : Scope → Table16 → DefaultCall → Chosen
chosen_default s t d = chosen_by s t d.action d.arguments

-- the table's own default; its arguments are literals, of numbers alone
abbrev pub own_default : Scope → Table16 → ActionName → Option Chosen
own_default s t action_name.NoAction = None
own_default s t (action_name.Declared text) = Some (record {
  called = text;
  number = place_among (planes_of s t) (action_plane s (action_name.Declared text));
  arguments = map literal_in (option_map_or arguments_of (default_arguments_of t.properties) []);
})

-- on a miss the default of the entries, else that of the table, else none
abbrev pub chosen_on_miss : Scope → Table16 → Option DefaultCall → Option Chosen
chosen_on_miss s t (Some d) = Some (chosen_default s t d)
chosen_on_miss s t None = option_and_then (own_default s t) (default_action_of t.properties)

abbrev pub chosen : Surroundings → Table16 → Option ℕ → Option Chosen
chosen b t (Some entry) = Some (chosen_entry b.scope t (entry_at (fill_of b t).entries entry))
chosen b t None = chosen_on_miss b.scope t (fill_of b t).default

-- the action runs

-- its parameters with the numbers of the arguments
abbrev pub bound_numbers : Scope → List Param → List ℕ → Value
bound_numbers s [] numbers = no_members
bound_numbers s (p ∷ parameters) [] = no_members
bound_numbers s (p ∷ parameters) (n ∷ numbers) =
    a_member p.name (fitted (zero_value s.layouts (kind_of_type s.names p.of)) (a_number 0 n))
    (bound_numbers s parameters numbers)

-- the entry that was hit, for the direct counter of the table
abbrev pub hit_of : Option ℕ → Option ℕ → Option Hit
hit_of (Some counter) (Some entry) = Some (record { counter = counter; entry = entry })
hit_of _ _ = None

abbrev pub run_action : Surroundings → (Action16 → Moment → Moment) → Option Hit → List ℕ → Option Action16 → Moment → Moment
run_action b act hit arguments None m = m
run_action b act hit arguments (Some a) m =
    let entered : Moment = record (with_inner (bound_numbers b.scope a.parameters arguments) m) { hit = hit } in
    record (with_inner m.frame.inner (act a entered)) { hit = m.hit }

abbrev pub run_chosen : Surroundings → (Action16 → Moment → Moment) → Option Hit → Option Chosen → Moment → Moment
run_chosen b act hit None m = m
run_chosen b act hit (Some k) m = run_action b act hit k.arguments (action_named b k.called) m

abbrev pub called_in : Chosen → Name
called_in k = k.called

abbrev pub number_of : Chosen → ℕ
number_of k = k.number

-- the application is noted with the table's number, the entry and the action
abbrev pub with_application : ℕ → Option ℕ → Option Chosen → Moment → Moment
with_application table entry k m =
    with_frame m (with_event (record { table = table; entry = entry; action = option_map number_of k }) m.frame)

abbrev pub applied_by : Surroundings → (Action16 → Moment → Moment) → Table16 → Option ℕ → Moment → Applied
applied_by b act t entry m =
    let k = chosen b t entry in
    let sig = table_sig b.setting.syntax b.locals b.scope t in
    record {
      hit = is_some entry;
      action = option_map called_in k;
      moment =
          run_chosen b act (hit_of sig.direct entry) k (with_application (table_number b.setting.syntax t) entry k m);
    }

-- the application of the table with a name
abbrev pub applied_in : Surroundings → (Action16 → Moment → Moment) → Option Table16 → Moment → Applied
applied_in b act None m = record { hit = false; action = None; moment = m }
applied_in b act (Some t) m = applied_by b act t (found b m t) m

abbrev pub applied : Surroundings → (Action16 → Moment → Moment) → Name → Moment → Applied
applied b act text m = applied_in b act (table_named b text) m
