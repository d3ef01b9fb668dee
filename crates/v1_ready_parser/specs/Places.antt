-- The states and the parser that rows of code are, over what is held, and that what they name is there.
use Rattle.std.specs.Prelude.{◌<◌, List, length, All}
use Rattle.v1_ready_selects.specs.Selects.{FitsTransition}
use Rattle.v1_ready_states.specs.declared.states.ReadyState.{ReadyState}
use Rattle.v1_ready_states.specs.declared.states.ReadyParser.{ReadyParser}
use Rattle.v1_ready_states.specs.States.{State, Parser}
use Rattle.v1_ready_states.specs.Rows.{state_of, states_of, parser_of}
use Rattle.v1_ready_nodes.specs.Held.{Held, ready_in, trees_in}

abbrev pub seen_state : Held → ReadyState → State
seen_state h r = state_of (ready_in h) (trees_in h) r

abbrev pub seen_states : Held → List ReadyState → List State
seen_states h rows = states_of (ready_in h) (trees_in h) rows

abbrev pub seen_parser : Held → ReadyParser → Parser
seen_parser h r = parser_of (ready_in h) (trees_in h) r

pub record IsStateIn (h : Held) (r : ReadyState) : Type 0 where
  pub body : r.body < length (trees_in h)
  pub transition : FitsTransition (length (ready_in h)) r.transition

pub record IsParserIn (h : Held) (r : ReadyParser) : Type 0 where
  pub variables : r.variables < length (trees_in h)
  pub states : All (IsStateIn h) r.states
