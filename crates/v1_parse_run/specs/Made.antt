-- What the states of a parser are made of, by its places (this project's own).
use Rattle.std.specs.Prelude.{ℕ, ◌<◌, ◌^◌, List, length, slice_index, Option, Some, None, All}
use Rattle.state_store.specs.declared.shapes.Shape.{Shape}
use Rattle.v1_core.specs.declared.parser_error.ParserError.{ParserError}
use Rattle.v1_core.specs.Frames.{error_number}
use Rattle.v1_core.specs.Layouts.{Layout}
use Rattle.v1_core.specs.Ready.{Ready}
use Rattle.v1_ready_selects.specs.Selects.{FitsTransition}
use Rattle.v1_ready_blocks.specs.Moments.{Moment}
use Rattle.v1_ready_blocks.specs.Nodes.{IsRange, IsSlot, Tree}
use Rattle.v1_ready_states.specs.declared.states.ReadyState.{ReadyState}
use Rattle.v1_ready_states.specs.declared.states.ReadyParser.{ReadyParser}
use Rattle.v1_ready_states.specs.States.{State, Parser, Onward, onward, finished}
use Rattle.v1_ready_states.specs.Rows.{state_of, states_of, parser_of}

-- the parts of frames, the objects, the octets of the packet, and the expressions and the statements that are kept
pub record Made : Type 0 where
  pub layout : Layout
  pub shapes : List Shape
  pub octets : List ℕ
  pub expressions : List Ready
  pub statements : List Tree

-- the state, the states and the parser of the definitions that ready ones are
abbrev pub made_state : Made → ReadyState → State
made_state made r = state_of made.expressions made.statements r

abbrev pub made_states : Made → List ReadyState → List State
made_states made states = states_of made.expressions made.statements states

abbrev pub made_parser : Made → ReadyParser → Parser
made_parser made r = parser_of made.expressions made.statements r

-- what is named by its place is there
pub record FitsState (made : Made) (r : ReadyState) : Type 0 where
  pub body : r.body < length made.statements
  pub transition : FitsTransition (length made.expressions) r.transition

-- a slot that has room for the number of each error
pub record HoldsErrors (l : Layout) (slot : ℕ) : Type 0 where
  pub there : IsSlot l slot
  pub wide : (e : ParserError) → error_number e < 2 ^ slice_index l.widths slot

-- all that a ready parser names by its place is there
pub record FitsParser (made : Made) (r : ReadyParser) : Type 0 where
  pub headers : IsRange made.layout r.headers
  pub error : HoldsErrors made.layout r.error
  pub variables : r.variables < length made.statements
  pub states : All (FitsState made) r.states

-- the number of the next state, or the end
abbrev pub shown_onward : Option ℕ → Moment → Onward
shown_onward None m = finished m
shown_onward (Some number) m = onward number m
