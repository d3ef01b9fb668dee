-- That what a parser is made of does, where it is made ready, what it does in the program: its statements, its states and its
-- variables (P4_16 1.2, "Packet parsing", "Parser states", "Variable declarations").
use Rattle.std.specs.Prelude.{◌≡◌, ℕ, ◌≤◌, false, List, [], Some, None, IfSome}
use Rattle.p416_syntax.specs.declared.parsers.State.{State}
use Rattle.p416_syntax.specs.declared.parsers.Parser16.{Parser16}
use Rattle.p416_syntax.specs.declared.program.Syntax16.{Syntax16}
use Rattle.p416_syntax.specs.Names.{Name}
use Rattle.p416_syntax.specs.Scopes.{kind_of_type}
use Rattle.p416_syntax.specs.Calls.{value}
use Rattle.p416_syntax.specs.Statements.{behind}
use Rattle.p416_syntax.specs.Breaks.{BreaksNone, program_rules}
use Rattle.v1_core.specs.declared.parser_error.ParserError.{ParserError}
use Rattle.v1_core.specs.Frames as sem
use Rattle.v1_core.specs.Slots.{variable_kinds, state_kinds}
use Rattle.v1_core.specs.Surroundings as meaning
use Rattle.v1_core.specs.Surroundings.{Setting}
use Rattle.v1_core.specs.Numbered.{Variable, nobody}
use Rattle.v1_core.specs.Parsing as parsing
use Rattle.v1_core.specs.Parsing.{parser_of, parse16}
use Rattle.v1_core.specs.Blocks.{begun}
use Rattle.v1_core.specs.Programs.{part_seat}
use Rattle.v1_ready_selects.specs.Selects.{Transition}
use Rattle.v1_ready_selects.specs.Transitions.{transition_ready}
use Rattle.v1_ready_blocks.specs.Moments.{Moment}
use Rattle.v1_ready_blocks.specs.Tests.{quiet_world}
use Rattle.v1_ready_blocks.specs.Statements.{Statement}
use Rattle.v1_ready_blocks.specs.Blocks.{parser_run}
use Rattle.v1_ready_states.specs.States as ready
use Rattle.v1_block_laws.specs.Standing.{AreOfKinds}
use Rattle.v1_block_laws.specs.Variables.{scope_in_parser, states_from, parser_variables, parser_seats}
use Rattle.v1_block_laws.specs.Keeping.{Each, TransitionKeeps}
use Rattle.v1_parser_laws.specs.Shown.{Shows, in_block}
use Rattle.v1_parser_laws.specs.Ranges.{error_part}
use Rattle.v1_parser_laws.specs.States.{StateIsMade, ParserIsMade, parser_world}
use Rattle.v1_parser_laws.specs.Laws.{ParseShows}
use Rattle.v1_ready_statements.specs.Around.{Around, slot_of_seat}
use Rattle.v1_ready_statements.specs.Statements.{seats_behind, ready_of_statement}
use Rattle.v1_statement_laws.specs.Behind.{Waits}
use Rattle.v1_statement_laws.specs.Leaves.{Leaves}
use Rattle.v1_statement_laws.specs.Meeting.{StatementMeets}
use Rattle.v1_program_laws.specs.Parsers.{bare, variables_of_parser, ready_parser}
use Rattle.v1_program_laws.specs.Rules.{KeptInParser}

-- where no table is applied
abbrev pub Quiet : meaning.World → Type 0
Quiet w = (text : Name) (m : sem.Moment) → (w.apply text m).moment ≡ m

-- the statements without others in them, and the conditions of the others
abbrev pub ParserLeaves : Type 0
ParserLeaves =
    (b : Around) (w : meaning.World) (vars : List Variable) (from to : ℕ) → BreaksNone b.syntax program_rules →
    b.locals ≡ [] → b.actions ≡ [] → Quiet w → Leaves KeptInParser (Waits false b.syntax) b w quiet_world vars from to

-- what the parser of a program that breaks no rule keeps: the expressions of its variables and of its statements
abbrev pub ParserKeepsRules : Type 0
ParserKeepsRules =
    (syntax : Syntax16) (p : Parser16) → BreaksNone syntax program_rules → parser_of syntax ≡ Some p →
    Each
    (λ v. IfSome v.initial (λ e. KeptInParser (scope_in_parser syntax p) (value (kind_of_type (scope_in_parser syntax p).names v.of)) e))
    p.vars
    × Each (λ x. StatementMeets KeptInParser (scope_in_parser syntax p) x.body) p.states

-- a state, whose variables have the numbers from one on
abbrev pub ReadyStateIsMade : Type 0
ReadyStateIsMade =
    (c : Setting) (p : Parser16) (n : ℕ) (names : List Name) (x : State) (body : Statement) (t : Transition) →
    BreaksNone c.syntax program_rules → parser_of c.syntax ≡ Some p → states_from c.syntax p ≤ n →
    AreOfKinds (variable_kinds c.syntax) n (state_kinds (scope_in_parser c.syntax p) x) →
    StatementMeets KeptInParser (scope_in_parser c.syntax p) x.body →
    TransitionKeeps (behind x.body (scope_in_parser c.syntax p)) x.transition →
    ready_of_statement (bare c.syntax) (scope_in_parser c.syntax p) (parser_seats c.syntax p) n x.body ≡ Some body →
    transition_ready (behind x.body (scope_in_parser c.syntax p))
    (seats_behind (bare c.syntax) (scope_in_parser c.syntax p) n x.body (parser_seats c.syntax p)) names x.transition
    ≡ Some t → StateIsMade c.syntax (parser_world c p) (parser_variables c.syntax p) names x (record { body = body; transition = t })

-- the variables: all start at 0, and then come their initial values
abbrev pub ReadyVariablesBegin : Type 0
ReadyVariablesBegin =
    (c : Setting) (p : Parser16) (v : Statement) → BreaksNone c.syntax program_rules → parser_of c.syntax ≡ Some p →
    variables_of_parser c.syntax p ≡ Some v → (m : sem.Moment) (n : Moment) → Shows c.syntax nobody m n → m.stopped ≡ None →
    Shows c.syntax (in_block (parser_variables c.syntax p) []) (begun (parser_world c p) p.vars m) (parser_run v n)

-- an error in the slot of `parser_error`
abbrev pub ReadyErrorStands : Type 0
ReadyErrorStands =
    (c : Setting) (slot : ℕ) → BreaksNone c.syntax program_rules →
    slot_of_seat (part_seat c.syntax error_part) ≡ Some slot → (m : sem.Moment) (n : Moment) (e : ParserError) →
    Shows c.syntax nobody m n →
    Shows c.syntax nobody (parsing.with_error (Some e) m) (ready.with_error slot (Some e) n)

-- so the parser of a program that breaks no rule, where it is made ready, is made as the law on parsers wants it
abbrev pub ReadyParserIsMade : Type 0
ReadyParserIsMade =
    (c : Setting) (p : Parser16) (r : ready.Parser) → BreaksNone c.syntax program_rules → parser_of c.syntax ≡ Some p →
    ready_parser c.syntax p ≡ Some r → ParserIsMade c p (parser_variables c.syntax p) r

-- and parsing comes to what is one, with the same error
abbrev pub ReadyParserShows : Type 0
ReadyParserShows =
    (c : Setting) (p : Parser16) (r : ready.Parser) (m : sem.Moment) (n : Moment) → BreaksNone c.syntax program_rules →
    parser_of c.syntax ≡ Some p → ready_parser c.syntax p ≡ Some r → Shows c.syntax nobody m n → m.stopped ≡ None →
    ParseShows c.syntax (parse16 c m) (ready.ready_parse r n)
