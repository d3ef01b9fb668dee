-- What statements work on: a packed frame, and what stands around it (the count of work is this project's own).
use Rattle.std.specs.Prelude.{ℕ, ◌+◌, ◌%◌, ◌^◌, Bool, if◌then◌else◌, is_some, List, Option, Some}
use Rattle.state_store.specs.State.{Contents}
use Rattle.v1_core.specs.declared.parser_error.ParserError.{ParserError}
use Rattle.v1_core.specs.Frames.{Hit}
use Rattle.v1_core.specs.Cells.{Cells}
use Rattle.v1_core.specs.Ready.{Ready, Ended, ready_value}

pub record Moment : Type 0 where
  pub cells : Cells
  -- the frame in which the arguments of a call wait, where one of them applies a table
  pub waiting : Cells
  pub store : Contents
  -- the octets that aren't parsed yet, and the bits that were emitted
  pub unparsed : List ℕ
  pub emitted : List Bool
  -- the statements and transitions that began, modulo 2 ^ 64
  pub work : ℕ
  -- the error that stopped the parser
  pub stopped : Option ParserError
  -- the entry for which an action runs, where a table with a direct counter runs it
  pub hit : Option Hit

abbrev pub with_cells : Cells → Moment → Moment
with_cells c m = record m { cells = c }

abbrev pub with_waiting : Cells → Moment → Moment
with_waiting c m = record m { waiting = c }

abbrev pub with_store : Contents → Moment → Moment
with_store store m = record m { store = store }

abbrev pub with_hit : Option Hit → Moment → Moment
with_hit hit m = record m { hit = hit }

-- one more statement or transition begins
abbrev pub ticked : Moment → Moment
ticked m = record m { work = (m.work + 1) % 2 ^ 64 }

abbrev pub is_stopped : Moment → Bool
is_stopped m = is_some m.stopped

-- an error stops the parser: the first one counts
abbrev pub raised : ParserError → Moment → Moment
raised e m = if is_stopped m then m else record m { stopped = Some e }

-- what doesn't run once an error stopped the parser
abbrev pub going_on : (Moment → Moment) → Moment → Moment
going_on f m = if is_stopped m then m else f m

-- the value of a ready expression at a moment
abbrev pub value_at : Moment → Ready → Ended
value_at m e = ready_value m.cells m.unparsed e
