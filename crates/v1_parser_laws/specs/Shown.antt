-- When a moment of a ready block is one of the program's meaning (this project's own).
use Rattle.std.specs.Prelude.{◌≡◌, List, None}
use Rattle.p4x_bits.specs.BitLists.{octet_bits}
use Rattle.p416_syntax.specs.declared.program.Syntax16.{Syntax16}
use Rattle.p416_syntax.specs.Names.{Name}
use Rattle.v1_core.specs.Frames as sem
use Rattle.v1_core.specs.Numbered.{Variable, InScope, frame_in}
use Rattle.v1_core.specs.Parsing as parsing
use Rattle.v1_core.specs.Programs.{numbered16}
use Rattle.v1_core.specs.PackedFrames.{IsFrameOf}
use Rattle.v1_ready_selects.specs.Rows.{number_of_state}
use Rattle.v1_ready_blocks.specs.Moments.{Moment}
use Rattle.v1_ready_states.specs.States as ready

-- these variables are in scope
pub record Shows (syntax : Syntax16) (who : InScope) (m : sem.Moment) (n : Moment) : Type 0 where
  pub frame : m.frame ≡ frame_in who (numbered16 syntax n.cells)
  pub whole : IsFrameOf syntax n.cells
  pub store : m.store ≡ n.store
  pub unparsed : m.unparsed ≡ n.unparsed
  pub emitted : octet_bits m.emitted ≡ n.emitted
  pub work : m.work ≡ n.work
  pub stopped : m.stopped ≡ n.stopped
  pub hit : m.hit ≡ n.hit

abbrev pub in_block : List Variable → List Variable → InScope
in_block vars inner = record { variables = vars; inner = inner }

-- the variables of the block are these; whichever those of statements are
abbrev pub ShowsIn : Syntax16 → List Variable → sem.Moment → Moment → Type 0
ShowsIn syntax vars m n = (inner : List Variable) × Shows syntax (in_block vars inner) m n

-- Behind statements that declare these variables they are in scope, where no error stopped that: then it may be fewer of them.
abbrev pub BodyShows : Syntax16 → List Variable → List Variable → sem.Moment → Moment → Type 0
BodyShows syntax vars inner m n =
    ShowsIn syntax vars m n × (m.stopped ≡ None → Shows syntax (in_block vars inner) m n)

-- behind a state: both go on in the same one, or both ended
pub data OnwardShows (syntax : Syntax16) (vars : List Variable) (names : List Name) : parsing.Onward → ready.Onward → Type 0 where
  both_go_on : (text : Name) (m : sem.Moment) (n : Moment) → ShowsIn syntax vars m n → OnwardShows syntax vars names (parsing.onward text m) (ready.onward (number_of_state names text) n)
  both_end : (m : sem.Moment) (n : Moment) → ShowsIn syntax vars m n → OnwardShows syntax vars names (parsing.finished m) (ready.finished n)
