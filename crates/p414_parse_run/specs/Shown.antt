-- How what is kept while rows run is seen, and what a step comes to.
use Rattle.std.specs.Prelude.{◌≡◌, ℕ, List}
use Rattle.p414_sem.specs.declared.parsed.Parsed.{Parsed}
use Rattle.p414_sem.specs.Parsing.{Parse}
use Rattle.p414_sem.specs.State.{State}
use Rattle.p414_layout.specs.declared.shape.Shape.{Shape}
use Rattle.p414_layout.specs.Shapes.{shape_at}
use Rattle.p414_state.specs.Packets.{Packet}
use Rattle.p414_ready_parser.specs.Running as run
use Rattle.p414_parse_run.specs.declared.going.Going.{Going}
use Rattle.p414_parse_run.specs.declared.going.Going.TheVariants as going
use Rattle.p414_parse_run.specs.declared.going.GoingTo.{GoingTo}
use Rattle.p414_parse_run.specs.declared.going.GoingTo.TheVariants as going_to

-- the widths of the fields of an instance
abbrev pub widths_in : List Shape → ℕ → List ℕ
widths_in layout i = (shape_at layout i).widths

abbrev pub shown_going : Going → State → run.Going
shown_going (going.On element) s = run.goes_on element s
shown_going (going.Stopped end) s = run.stops end s

abbrev pub shown_to : GoingTo → State → run.GoingTo
shown_to (going_to.To next) s = run.to next s
shown_to (going_to.Ended end) s = run.ended end s

-- statements came to what they should, and the layout stays
pub record IsDone (old new : Packet) (shown due : run.Going) : Type 0 where
  pub layout : new.layout ≡ old.layout
  pub goes : shown ≡ due

-- so did a state
pub record IsRun (old new : Packet) (shown due : run.GoingTo) : Type 0 where
  pub layout : new.layout ≡ old.layout
  pub goes : shown ≡ due

-- so did the whole
pub record IsParsed (old new : Packet) (due : Parse) (answer : Parsed) : Type 0 where
  pub layout : new.layout ≡ old.layout
  pub end : answer ≡ due.end
  pub state : new.state ≡ due.state
