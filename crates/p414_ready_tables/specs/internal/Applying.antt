-- An application of a table by numbers.
use Rattle.std.specs.Prelude.{◌≡◌, ℕ, ◌<◌, is_some, List, [], length, map, slice_get, Option, Some, None, option_map, All}
use Rattle.state_store.specs.declared.shapes.Shape as objects
use Rattle.state_store.specs.State.{Contents}
use Rattle.match_core.specs.declared.entries.DefaultCall.{DefaultCall}
use Rattle.match_core.specs.declared.entries.TableFill.{TableFill}
use Rattle.match_core.specs.Best.{Filled, best, entry_at}
use Rattle.match_core.specs.Stores.{shapes_of}
use Rattle.match_core.specs.Tables.{tables_of}
use Rattle.p414_sem.specs.State.{State}
use Rattle.p414_sem.specs.Effects.{Moment}
use Rattle.p414_sem.specs.Controls.{Chosen, counted, default_of, entry_of, noted}
use Rattle.p414_sem.specs.Signatures.{signature14}
use Rattle.p414_layout.specs.Shapes.{layout_of}
use Rattle.p414_state.specs.Packets.{Packet}
use Rattle.p414_act_run.specs.Moments.{IsMoved, moment}
use Rattle.p414_ready_tables.specs.declared.actions.ReadyActions.{ReadyActions}
use Rattle.p414_ready_tables.specs.declared.applied.ReadyApplied.{ReadyApplied}
use Rattle.p414_ready_tables.specs.declared.tables.ReadyTable.{ReadyTable}
use Rattle.p414_ready_tables.specs.Loaded.{Loaded}
use Rattle.p414_ready_tables.specs.Tables.{AreReadyTables, FitsTable, row_value}
use Rattle.p414_ready_tables.specs.internal.Acting.{AreActions, FitsActions, acted}

-- the entry that is found
abbrev pub found_by : State → ReadyTable → Filled → Option ℕ
found_by s r filled = best filled (map (row_value s) r.keys)

-- the call that is made: on a hit the entry's, on a miss the default of the entries, else that of the program

abbrev pub first_default : Option DefaultCall → Option DefaultCall → Option Chosen
first_default (Some d) other = Some (default_of d)
first_default None other = option_map default_of other

abbrev pub call_by : TableFill → Option DefaultCall → Option ℕ → Option Chosen
call_by fill default (Some entry) = Some (entry_of (entry_at fill.entries entry))
call_by fill default None = first_default fill.default default

abbrev pub arguments_of : Option Chosen → List ℕ
arguments_of None = []
arguments_of (Some k) = k.arguments

-- the action that ran is that of the call, by its number in the program
abbrev pub RanBy : ReadyActions → List ℕ → Option Chosen → Option ℕ → Type 0
RanBy a actions None None = Unit {0}
RanBy a actions (Some k) (Some n) = (slice_get actions k.action ≡ Some n) × (n < length a.rows)
RanBy a actions _ _ = ⊥

abbrev pub after_call : ReadyActions → Option ℕ → Option Chosen → Moment → Moment
after_call a (Some n) (Some k) m = acted a n k.arguments m
after_call a _ _ m = m

-- a call was made, and came to this moment
pub record IsCalled (a : ReadyActions) (r : ReadyTable) (k : Option Chosen) (ran : Option ℕ) (old new : Packet) (before behind : Contents) : Type 0 where
  pub ran_by : RanBy a r.actions k ran
  pub moved : IsMoved old new before behind (after_call a ran k (moment old before))

-- the application of the table with a number was noted, and its entry counted
abbrev pub noted_by : ℕ → ReadyTable → TableFill → Option ℕ → Moment → Moment
noted_by number r fill entry m = counted r.direct entry (noted number entry (call_by fill r.default entry) m)

-- the table with a number was applied, and found this entry
pub record IsRun (a : ReadyActions) (number : ℕ) (r : ReadyTable) (fill : TableFill) (entry : Option ℕ) (ran : ReadyApplied) (old new : Packet) (before behind : Contents) : Type 0 where
  pub hit : ran.hit ≡ is_some entry
  pub ran_by : RanBy a r.actions (call_by fill r.default entry) ran.action
  pub moved : IsMoved old new before behind (after_call a ran.action (call_by fill r.default entry) (noted_by number r fill entry (moment old before)))

-- tables and actions are those of a program, and fit its states and stores
pub record AreReady (c : Loaded) (tables : List ReadyTable) (filled : List Filled) (a : ReadyActions) : Type 0 where
  pub rule_is : a.rule ≡ c.rule
  pub tables_are : AreReadyTables c.decls tables
  pub filled_are : filled ≡ tables_of (signature14 c.decls) c.entries
  pub actions_are : AreActions c.decls a
  pub actions_fit : FitsActions (layout_of c.decls) (shapes_of (signature14 c.decls) c.entries) a
  pub tables_fit : All (FitsTable (shapes_of (signature14 c.decls) c.entries)) tables
