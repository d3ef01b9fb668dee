-- Tables: their keys, the entry that is hit, the action that runs (P4_16 1.2, "Match-action unit invocation", "Match-action
-- unit execution semantics"; `v1model.p4`, `direct_counter`). A miss runs the default of the entries, else the table's
-- `default_action`, else nothing.
use Rattle.std.specs.Prelude.{ℕ, is_some, List, [], ◌∷◌, map, slice_index_or, Option, Some, None, option_map}
use Rattle.match_core.specs.declared.entries.Entry.{Entry}
use Rattle.match_core.specs.declared.entries.DefaultCall.{DefaultCall}
use Rattle.match_core.specs.declared.entries.TableFill.{TableFill}
use Rattle.match_core.specs.Best.{Filled, best, entry_at}
use Rattle.v1_core.specs.Values.{as_number}
use Rattle.v1_core.specs.Frames.{Hit}
use Rattle.v1_core.specs.Cells.{Cells, with_event}
use Rattle.v1_core.specs.Ready.{Ready, Ended, given, failed}
use Rattle.v1_ready_blocks.specs.Moments.{Moment, with_cells, with_hit, value_at}
use Rattle.v1_ready_blocks.specs.Places.{put}
use Rattle.v1_ready_blocks.specs.Tests.{Applied}

-- an action that a table lists: its number in the control, its number among those of the table in the signature, and the
-- numbers of its arguments
pub record Chosen : Type 0 where
  pub action : ℕ
  pub number : ℕ
  pub arguments : List ℕ

pub record Table : Type 0 where
  -- the number in the signature
  pub number : ℕ
  pub keys : List Ready
  -- the number of its direct counter
  pub direct : Option ℕ
  -- for each of its actions in the signature its number in the control
  pub actions : List ℕ
  -- its `default_action`, where that isn't `NoAction`
  pub default : Option Chosen

-- What fills the tables of the signature: the table, and what was set for it.
pub record Fill : Type 0 where
  pub tables : List Filled
  pub fills : List TableFill

abbrev pub no_table : Filled
no_table = record { specs = []; entries = [] }

abbrev pub no_fill : TableFill
no_fill = record { entries = []; default = None }

abbrev pub table_of : Fill → Table → Filled
table_of f t = slice_index_or f.tables t.number no_table

abbrev pub fill_of : Fill → Table → TableFill
fill_of f t = slice_index_or f.fills t.number no_fill

-- keys

-- the number of a key; no key of a program raises an error
abbrev pub key_number : Ended → ℕ
key_number (given v) = as_number v
key_number (failed e) = 0

abbrev pub key_value : Moment → Ready → ℕ
key_value m e = key_number (value_at m e)

abbrev pub key_values : Moment → Table → List ℕ
key_values m t = map (key_value m) t.keys

abbrev pub found : Fill → Moment → Table → Option ℕ
found f m t = best (table_of f t) (key_values m t)

-- which action runs

abbrev pub chosen_by : Table → ℕ → List ℕ → Chosen
chosen_by t number arguments =
    record { action = slice_index_or t.actions number 0; number = number; arguments = arguments }

abbrev pub chosen_entry : Table → Entry → Chosen
chosen_entry t e = chosen_by t e.action e.arguments

abbrev pub chosen_default : Table → DefaultCall → Chosen
chosen_default t d = chosen_by t d.action d.arguments

abbrev pub chosen_on_miss : Table → Option DefaultCall → Option Chosen
chosen_on_miss t (Some d) = Some (chosen_default t d)
chosen_on_miss t None = t.default

abbrev pub chosen : Fill → Table → Option ℕ → Option Chosen
chosen f t (Some entry) = Some (chosen_entry t (entry_at (table_of f t).entries entry))
chosen f t None = chosen_on_miss t (fill_of f t).default

-- the action runs

-- parameters, by their slots, with the numbers of the arguments
abbrev pub bound_numbers : List ℕ → List ℕ → Cells → Cells
bound_numbers [] numbers c = c
bound_numbers (slot ∷ slots) [] c = c
bound_numbers (slot ∷ slots) (n ∷ numbers) c = bound_numbers slots numbers (put slot None n c)

-- the entry that was hit, for the direct counter of the table
abbrev pub hit_of : Option ℕ → Option ℕ → Option Hit
hit_of (Some counter) (Some entry) = Some (record { counter = counter; entry = entry })
hit_of _ _ = None

-- the slots of the parameters of each action, and what the action does, by its number
abbrev pub run_chosen : List (List ℕ) → (ℕ → Moment → Moment) → Option Hit → Option Chosen → Moment → Moment
run_chosen parameters act hit None m = m
run_chosen parameters act hit (Some k) m =
    let c = bound_numbers (slice_index_or parameters k.action []) k.arguments m.cells in
    with_hit m.hit (act k.action (with_hit hit (with_cells c m)))

abbrev pub action_in : Chosen → ℕ
action_in k = k.action

abbrev pub number_in : Chosen → ℕ
number_in k = k.number

-- the application is noted with the table's number, the entry and the action
abbrev pub noted : ℕ → Option ℕ → Option Chosen → Moment → Moment
noted table entry k m =
    with_cells (with_event (record { table = table; entry = entry; action = option_map number_in k }) m.cells) m

abbrev pub applied_by : Fill → List (List ℕ) → (ℕ → Moment → Moment) → Table → Option ℕ → Moment → Applied
applied_by f parameters act t entry m =
    let k = chosen f t entry in
    record {
      hit = is_some entry;
      action = option_map action_in k;
      moment = run_chosen parameters act (hit_of t.direct entry) k (noted t.number entry k m);
    }

abbrev pub applied : Fill → List (List ℕ) → (ℕ → Moment → Moment) → Table → Moment → Applied
applied f parameters act t m = applied_by f parameters act t (found f m t) m
