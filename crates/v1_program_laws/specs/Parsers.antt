-- Which ready parser the parser of a program is (P4_16 1.2, "Packet parsing", "Parser states"; `v1model.p4`). It begins with its
-- variables, which all start at 0, and then with their initial values in order. The variables of all states are counted one behind
-- another; behind its statements those of a state are in scope for its transition.
use Rattle.std.specs.Prelude.{ℕ, List, [], ◌∷◌, map, Option, Some, None, codes}
use Rattle.p416_syntax.specs.declared.parsers.Var.{Var}
use Rattle.p416_syntax.specs.declared.parsers.State.{State as Written}
use Rattle.p416_syntax.specs.declared.parsers.Parser16.{Parser16}
use Rattle.p416_syntax.specs.declared.controls.Local.{Local}
use Rattle.p416_syntax.specs.declared.controls.Local.TheVariants as local
use Rattle.p416_syntax.specs.declared.program.Syntax16.{Syntax16}
use Rattle.p416_syntax.specs.Names.{Name}
use Rattle.p416_syntax.specs.Scopes.{Scope}
use Rattle.p416_syntax.specs.Statements.{behind}
use Rattle.p416_syntax.specs.Declarations.{layouts_of}
use Rattle.v1_core.specs.Programs.{part_seat}
use Rattle.v1_ready_forms.specs.Named.{NamedSeat}
use Rattle.v1_ready_selects.specs.Selects.{Transition}
use Rattle.v1_ready_selects.specs.Transitions.{transition_ready}
use Rattle.v1_ready_selects.specs.Rows.{number_of_state}
use Rattle.v1_ready_selects.specs.Matching.{state_names}
use Rattle.v1_ready_blocks.specs.declared.places.Range.{Range}
use Rattle.v1_ready_blocks.specs.Statements.{Statement, nothing}
use Rattle.v1_ready_states.specs.States.{State, Parser}
use Rattle.v1_block_laws.specs.Variables.{scope_in_parser, parser_from, states_from, parser_seats}
use Rattle.v1_parser_laws.specs.Ranges.{error_part, headers_seat}
use Rattle.v1_place_laws.specs.Places.{range_of}
use Rattle.v1_ready_statements.specs.Around.{Around, slot_of_seat}
use Rattle.v1_ready_statements.specs.Given.{cons_option}
use Rattle.v1_ready_statements.specs.Statements.{number_behind, seats_behind, ready_of_statement}
use Rattle.v1_ready_statements.specs.Blocks.{starts_from, initials_from, joined, whole_body}

-- a parser declares nothing but variables
abbrev pub bare : Syntax16 → Around
bare syntax = record { syntax = syntax; locals = []; actions = [] }

abbrev pub as_locals : List Var → List Local
as_locals vars = map (λ v. local.Var v) vars

abbrev pub variables_of_parser : Syntax16 → Parser16 → Option Statement
variables_of_parser syntax p =
    let s = scope_in_parser syntax p in
    whole_body
    (joined (starts_from (bare syntax) s (parser_from syntax p) (as_locals p.vars)) (initials_from (bare syntax) s (parser_seats syntax p) (parser_from syntax p) (as_locals p.vars)))
    (Some nothing)

abbrev pub with_transition : Option Statement → Option Transition → Option State
with_transition (Some body) (Some t) = Some (record { body = body; transition = t })
with_transition _ _ = None

-- a state, of which the first variable has this number, where the states have these names
abbrev pub state_ready : Around → Scope → List NamedSeat → ℕ → List Name → Written → Option State
state_ready b s seats n names x =
    with_transition (ready_of_statement b s seats n x.body)
    (transition_ready (behind x.body s) (seats_behind b s n x.body seats) names x.transition)

abbrev pub states_ready : Around → Scope → List NamedSeat → ℕ → List Name → List Written → Option (List State)
states_ready b s seats n names [] = Some []
states_ready b s seats n names (x ∷ states) =
    cons_option (state_ready b s seats n names x) (states_ready b s seats (number_behind s x.body n) names states)

abbrev pub states_of_parser : Syntax16 → Parser16 → Option (List State)
states_of_parser syntax p =
    states_ready (bare syntax) (scope_in_parser syntax p) (parser_seats syntax p) (states_from syntax p) (state_names p.states)
    p.states

abbrev pub with_states : Range → ℕ → Option ℕ → Option Statement → Option (List State) → Option Parser
with_states headers first (Some error) (Some variables) (Some states) =
    Some (record { headers = headers; error = error; variables = variables; states = states; first = first })
with_states headers first _ _ _ = None

-- over the parts of the headers and the slot of `parser_error`
abbrev pub ready_parser : Syntax16 → Parser16 → Option Parser
ready_parser syntax p =
    with_states (range_of (layouts_of syntax.decls) (headers_seat syntax))
    (number_of_state (state_names p.states) (codes "start")) (slot_of_seat (part_seat syntax error_part))
    (variables_of_parser syntax p) (states_of_parser syntax p)
