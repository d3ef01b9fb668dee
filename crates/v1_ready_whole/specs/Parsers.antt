-- Which ready parser the parser of a program is (P4_16 1.2, "Packet parsing"; `v1model.p4`): it begins with its variables, which all
-- start at 0, and then with their initial values in order.
use Rattle.std.specs.Prelude.{ℕ, List, [], map, Option, Some, None, codes}
use Rattle.p416_syntax.specs.declared.parsers.Var.{Var}
use Rattle.p416_syntax.specs.declared.parsers.Parser16.{Parser16}
use Rattle.p416_syntax.specs.declared.controls.Local.{Local}
use Rattle.p416_syntax.specs.declared.controls.Local.TheVariants as local
use Rattle.p416_syntax.specs.declared.program.Syntax16.{Syntax16}
use Rattle.p416_syntax.specs.Declarations.{layouts_of}
use Rattle.v1_place_laws.specs.Places.{range_of}
use Rattle.v1_block_laws.specs.Variables.{scope_in_parser, parser_from, states_from, parser_seats}
use Rattle.v1_parser_laws.specs.Ranges.{headers_seat}
use Rattle.v1_ready_selects.specs.Rows.{number_of_state}
use Rattle.v1_ready_selects.specs.Matching.{state_names}
use Rattle.v1_ready_blocks.specs.Statements.{Statement, nothing}
use Rattle.v1_ready_states.specs.States.{State, Parser}
use Rattle.v1_ready_statements.specs.Around.{Around}
use Rattle.v1_ready_statements.specs.Blocks.{starts_from, initials_from, joined, whole_body}
use Rattle.v1_ready_parser.specs.Parsers.{states_ready, with_states}
use Rattle.v1_ready_controls.specs.Program.{slot_in_standard}

-- a parser declares nothing but variables
abbrev pub around_parser : Syntax16 → Around
around_parser syntax = record { syntax = syntax; locals = []; actions = [] }

abbrev pub vars_of_list : List Var → List Local
vars_of_list vars = map (λ v. local.Var v) vars

abbrev pub vars_of : Parser16 → List Local
vars_of p = vars_of_list p.vars

abbrev pub parser_variables_ready : Syntax16 → Parser16 → Option Statement
parser_variables_ready syntax p =
    let b = around_parser syntax in
    let s = scope_in_parser syntax p in
    whole_body (joined (starts_from b s (parser_from syntax p) (vars_of p)) (initials_from b s (parser_seats syntax p) (parser_from syntax p) (vars_of p))) (Some nothing)

abbrev pub parser_states_ready : Syntax16 → Parser16 → Option (List State)
parser_states_ready syntax p =
    states_ready (around_parser syntax) (scope_in_parser syntax p) (parser_seats syntax p) (states_from syntax p) (state_names p.states) p.states

abbrev pub with_error_slot : (ℕ → Option Parser) → Option ℕ → Option Parser
with_error_slot f None = None
with_error_slot f (Some slot) = f slot

-- over the parts of the headers and the slot of `parser_error`
abbrev pub ready_parser : Syntax16 → Parser16 → Option Parser
ready_parser syntax p =
    with_error_slot
    (λ slot. with_states (range_of (layouts_of syntax.decls) (headers_seat syntax)) slot (number_of_state (state_names p.states) (codes "start")) (parser_variables_ready syntax p) (parser_states_ready syntax p))
    (slot_in_standard syntax (codes "parser_error"))
