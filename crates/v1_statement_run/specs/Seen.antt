-- How a frame, a store, octets and what a run keeps besides are seen as a moment, and what an extern comes to.
use Rattle.std.specs.Prelude.{◌≡◌, ℕ, ◌==◌, Bool, ◌&&◌, if◌then◌else◌, List, ◌++◌, map, Option, Some, None}
use Rattle.p4x_bits.specs.BitLists.{octet_bits}
use Rattle.state_store.specs.State.{Contents, count as count_in_store}
use Rattle.p416_syntax.specs.declared.parts.HashAlgorithm.{HashAlgorithm}
use Rattle.v1_core.specs.Frames as sem
use Rattle.v1_core.specs.Cells.{Cells}
use Rattle.v1_core.specs.Scalars.{seen_scalar}
use Rattle.v1_ready_blocks.specs.declared.places.Target.{Target}
use Rattle.v1_ready_blocks.specs.Moments.{Moment}
use Rattle.v1_ready_blocks.specs.Places.{put, put_at}
use Rattle.v1_ready_blocks.specs.Externs.{Given, holds_at, value_at, is_wrong, result_by}
use Rattle.v1_statement_run.specs.declared.run.Hit.{Hit}
use Rattle.v1_statement_run.specs.declared.run.Run.{Run}

abbrev pub seen_hit : Option Hit → Option sem.Hit
seen_hit None = None
seen_hit (Some h) = Some (record { counter = h.counter; entry = h.entry })

-- what is given to an extern
abbrev pub given_of : Run → Given
given_of r = record { values = map seen_scalar r.values; list = r.list }

abbrev pub moment : Cells → Contents → List ℕ → Run → Moment
moment c store unparsed r = record {
  cells = c;
  waiting = r.waiting;
  store = store;
  unparsed = unparsed;
  emitted = r.emitted;
  work = r.work;
  stopped = r.stopped;
  hit = seen_hit r.hit;
}

-- a run with another list of bits given, which no moment shows
abbrev pub with_list : List Bool → Run → Run
with_list list r = record r { list = list }

-- a step came to the moment that was due, and what frames and objects are made of stays
pub record IsMoved (old : Cells) (before : Contents) (now due : Moment) : Type 0 where
  pub layout : now.cells.layout ≡ old.layout
  pub shapes : now.store.shapes ≡ before.shapes
  pub moves : now ≡ due

-- what parts of an extern do

abbrev pub entry_counted : ℕ → Option sem.Hit → ℕ → Contents → Contents
entry_counted object None octets store = store
entry_counted object (Some h) octets store =
    if h.counter == object then count_in_store store object h.entry octets else store

abbrev pub list_of : Bool → Given → List ℕ → List Bool
list_of payload g unparsed = if payload then g.list ++ octet_bits unparsed else g.list

abbrev pub checked : HashAlgorithm → Bool → ℕ → Given → List ℕ → Cells → Cells
checked algorithm payload slot g unparsed c =
    if holds_at g 0 && is_wrong algorithm (list_of payload g unparsed) (value_at g 1) then put slot None 1 c else c

abbrev pub summed : HashAlgorithm → Bool → Target → Given → List ℕ → Cells → Cells
summed algorithm payload to g unparsed c =
    if holds_at g 0 then put_at to (result_by algorithm (list_of payload g unparsed)) c else c
