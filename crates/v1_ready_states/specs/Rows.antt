-- Which states and which parser those of code are, given the expressions and the statements that are kept.
use Rattle.std.specs.Prelude.{List, map}
use Rattle.v1_core.specs.Ready.{Ready}
use Rattle.v1_ready_selects.specs.Selects.{transition_of}
use Rattle.v1_ready_blocks.specs.Nodes.{Tree, statement_at}
use Rattle.v1_ready_states.specs.declared.states.ReadyState.{ReadyState}
use Rattle.v1_ready_states.specs.declared.states.ReadyParser.{ReadyParser}
use Rattle.v1_ready_states.specs.States.{State, Parser}

abbrev pub state_of : List Ready → List Tree → ReadyState → State
state_of es ts r = record { body = statement_at ts r.body; transition = transition_of es r.transition }

abbrev pub states_of : List Ready → List Tree → List ReadyState → List State
states_of es ts states = map (state_of es ts) states

abbrev pub parser_of : List Ready → List Tree → ReadyParser → Parser
parser_of es ts r = record {
  headers = r.headers;
  error = r.error;
  variables = statement_at ts r.variables;
  states = states_of es ts r.states;
  first = r.first;
}
