-- Which ready states the states of a parser are (P4_16 1.2, "Parser states"). The variables of all states are counted one behind
-- another; behind its statements those of a state are in scope for its transition.
use Rattle.std.specs.Prelude.{ℕ, List, [], ◌∷◌, Option, Some, None}
use Rattle.p416_syntax.specs.declared.parsers.State.{State as Written}
use Rattle.p416_syntax.specs.Names.{Name}
use Rattle.p416_syntax.specs.Scopes.{Scope}
use Rattle.p416_syntax.specs.Statements.{behind}
use Rattle.v1_ready_forms.specs.Named.{NamedSeat}
use Rattle.v1_ready_selects.specs.Selects.{Transition}
use Rattle.v1_ready_selects.specs.Transitions.{transition_ready}
use Rattle.v1_ready_blocks.specs.Statements.{Statement, nothing}
use Rattle.v1_ready_blocks.specs.declared.places.Range.{Range}
use Rattle.v1_ready_states.specs.States.{State, Parser}
use Rattle.v1_ready_statements.specs.Around.{Around}
use Rattle.v1_ready_statements.specs.Given.{cons_option}
use Rattle.v1_ready_statements.specs.Statements.{number_behind, seats_behind, ready_of_statement}
use Rattle.v1_ready_bodies.specs.declared.variables.OwnVariable.{OwnVariable}
use Rattle.v1_ready_bodies.specs.Variables.{variables_ready}

abbrev pub with_transition : Option Statement → Option Transition → Option State
with_transition (Some body) (Some t) = Some (record { body = body; transition = t })
with_transition _ _ = None

-- a state, of which the first variable has this number, where the states have these names
abbrev pub state_ready : Around → Scope → List NamedSeat → ℕ → List Name → Written → Option State
state_ready b s seats n names x =
    with_transition (ready_of_statement b s seats n x.body)
    (transition_ready (behind x.body s) (seats_behind b s n x.body seats) names x.transition)

abbrev pub states_ready : Around → Scope → List NamedSeat → ℕ → List Name → List Written → Option (List State)
states_ready b s seats n names [] = Some []
states_ready b s seats n names (x ∷ states) =
    cons_option (state_ready b s seats n names x) (states_ready b s seats (number_behind s x.body n) names states)

abbrev pub with_states : Range → ℕ → ℕ → Option Statement → Option (List State) → Option Parser
with_states headers error first (Some variables) (Some states) =
    Some (record { headers = headers; error = error; variables = variables; states = states; first = first })
with_states headers error first _ _ = None

-- a parser over these headers and this slot of `parser_error`, the state `start` of which has this number
abbrev pub parser_ready : Around → Scope → List NamedSeat → ℕ → List Name → Range → ℕ → ℕ → List OwnVariable → List Written → Option Parser
parser_ready b s seats n names headers error first variables states =
    with_states headers error first (variables_ready b s seats variables (Some nothing))
    (states_ready b s seats n names states)
