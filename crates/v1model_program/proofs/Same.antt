-- Both definitions of the ready parser of a program are one.
use Rattle.std.proofs.Common.{◌≡◌, ℕ, Option, Some, None, List, [], ◌∷◌, refl, ap, ◌∙◌}
use Rattle.std.specs.Prelude.{codes}
use Rattle.p416_syntax.specs.declared.parsers.State.{State as Written}
use Rattle.p416_syntax.specs.declared.parsers.Parser16.{Parser16}
use Rattle.p416_syntax.specs.declared.program.Syntax16.{Syntax16}
use Rattle.p416_syntax.specs.Names.{Name}
use Rattle.p416_syntax.specs.Scopes.{Scope}
use Rattle.p416_syntax.specs.Statements.{behind}
use Rattle.p416_syntax.specs.Declarations.{layouts_of}
use Rattle.v1_core.specs.Programs.{part_seat}
use Rattle.v1_ready_forms.specs.Named.{NamedSeat}
use Rattle.v1_ready_selects.specs.Selects.{Transition}
use Rattle.v1_ready_selects.specs.Transitions.{transition_ready}
use Rattle.v1_ready_selects.specs.Rows.{number_of_state}
use Rattle.v1_ready_selects.specs.Matching.{state_names}
use Rattle.v1_ready_blocks.specs.declared.places.Range.{Range}
use Rattle.v1_ready_blocks.specs.Statements.{Statement}
use Rattle.v1_ready_states.specs.States.{State}
use Rattle.v1_block_laws.specs.Variables.{scope_in_parser, states_from, parser_seats}
use Rattle.v1_parser_laws.specs.Ranges.{error_part, headers_seat}
use Rattle.v1_place_laws.specs.Places.{range_of}
use Rattle.v1_ready_statements.specs.Around.{Around, slot_of_seat}
use Rattle.v1_ready_statements.specs.Given.{cons_option}
use Rattle.v1_ready_statements.specs.Statements.{number_behind, seats_behind, ready_of_statement}
use Rattle.v1_ready_parser.specs.Parsers as made
use Rattle.v1_ready_whole.specs.Parsers as whole
use Rattle.v1_program_laws.specs.Parsers.{bare, variables_of_parser, with_transition, state_ready, states_ready, with_states, ready_parser}

joined_same : (o : Option Statement) (q : Option Transition) → made.with_transition o q ≡ with_transition o q
joined_same None None = refl
joined_same None (Some t) = refl
joined_same (Some body) None = refl
joined_same (Some body) (Some t) = refl

states_same : (b : Around) (s : Scope) (seats : List NamedSeat) (n : ℕ) (names : List Name) (states : List Written) → made.states_ready b s seats n names states ≡ states_ready b s seats n names states
states_same b s seats n names [] = refl
states_same b s seats n names (x ∷ states) =
    ap (λ (o : Option State). cons_option o (made.states_ready b s seats (number_behind s x.body n) names states))
    (joined_same (ready_of_statement b s seats n x.body) (transition_ready (behind x.body s) (seats_behind b s n x.body seats) names x.transition))
    ∙ ap (cons_option (state_ready b s seats n names x)) (states_same b s seats (number_behind s x.body n) names states)

parts_same : (headers : Range) (first : ℕ) (a : Option ℕ) (o : Option Statement) (q : Option (List State)) → whole.with_error_slot (λ slot. made.with_states headers slot first o q) a ≡ with_states headers first a o q
parts_same headers first None None None = refl
parts_same headers first None None (Some rows) = refl
parts_same headers first None (Some v) None = refl
parts_same headers first None (Some v) (Some rows) = refl
parts_same headers first (Some slot) None None = refl
parts_same headers first (Some slot) None (Some rows) = refl
parts_same headers first (Some slot) (Some v) None = refl
parts_same headers first (Some slot) (Some v) (Some rows) = refl

pub parsers_same : (syntax : Syntax16) (p : Parser16) → whole.ready_parser syntax p ≡ ready_parser syntax p
parsers_same syntax p =
    parts_same (range_of (layouts_of syntax.decls) (headers_seat syntax)) (number_of_state (state_names p.states) (codes "start")) (slot_of_seat (part_seat syntax error_part)) (variables_of_parser syntax p) (whole.parser_states_ready syntax p)
    ∙ ap (with_states (range_of (layouts_of syntax.decls) (headers_seat syntax)) (number_of_state (state_names p.states) (codes "start")) (slot_of_seat (part_seat syntax error_part)) (variables_of_parser syntax p))
    (states_same (bare syntax) (scope_in_parser syntax p) (parser_seats syntax p) (states_from syntax p) (state_names p.states) p.states)
