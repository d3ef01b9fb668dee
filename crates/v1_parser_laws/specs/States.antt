-- When the states of a ready parser do what those of the program do (P4_16 1.2, "Parser states").
use Rattle.std.specs.Prelude.{◌≡◌, List, [], ◌∷◌, Some, None, codes}
use Rattle.p416_syntax.specs.declared.program.Syntax16.{Syntax16}
use Rattle.p416_syntax.specs.declared.parsers.State.{State}
use Rattle.p416_syntax.specs.declared.parsers.Parser16.{Parser16}
use Rattle.p416_syntax.specs.Names.{Name}
use Rattle.p416_syntax.specs.Scopes.{Scope}
use Rattle.p416_syntax.specs.Statements.{behind}
use Rattle.p416_syntax.specs.Declarations.{layouts_of}
use Rattle.v1_core.specs.Frames as sem
use Rattle.v1_core.specs.declared.parser_error.ParserError.{ParserError}
use Rattle.v1_core.specs.Surroundings.{Setting, World, quiet_world}
use Rattle.v1_core.specs.Numbered.{Variable, nobody}
use Rattle.v1_core.specs.Blocks.{begun}
use Rattle.v1_core.specs.Statements.{no_label, run}
use Rattle.v1_core.specs.Parsing.{in_state, around_parser, without_headers, with_error}
use Rattle.v1_ready_forms.specs.Named.{NamedSeat, seats_in}
use Rattle.v1_ready_laws.specs.Rules.{NamesSeated}
use Rattle.v1_ready_selects.specs.Rows.{number_of_state}
use Rattle.v1_ready_selects.specs.Transitions.{transition_ready}
use Rattle.v1_ready_selects.specs.Matching.{state_names}
use Rattle.v1_ready_blocks.specs.Moments.{Moment}
use Rattle.v1_ready_blocks.specs.Blocks.{parser_run}
use Rattle.v1_ready_states.specs.States as ready
use Rattle.v1_block_laws.specs.Keeping.{TransitionKeeps}
use Rattle.v1_parser_laws.specs.Shown.{Shows, in_block, ShowsIn, BodyShows, OnwardShows}

-- from moments that are one they come to what is one
abbrev pub StateShows : Syntax16 → World → List Variable → List Name → State → ready.State → Type 0
StateShows syntax w vars names x r =
    (m : sem.Moment) (n : Moment) → ShowsIn syntax vars m n →
    OnwardShows syntax vars names (in_state w x m) (ready.in_state r n)

-- so do all of them, one after another
abbrev pub StatesShow : Syntax16 → World → List Variable → List Name → List State → List ready.State → Type 0
StatesShow syntax w vars names [] [] = Unit {0}
StatesShow syntax w vars names (x ∷ states) (r ∷ rows) =
    StateShows syntax w vars names x r × StatesShow syntax w vars names states rows
StatesShow syntax w vars names _ _ = ⊥

-- the seats of the names behind the statements of a state
abbrev pub seats_behind : Syntax16 → World → List Variable → List Variable → List NamedSeat
seats_behind syntax w vars inner = seats_in syntax w.around.roots (in_block vars inner)

-- A state is made ready: its statements do what those of the program do, and declare these variables; its transition is ready
-- behind them, where names are declared as what stands at their seats, and its keys keep the rules on types and sizes.
pub record StateIsMade (syntax : Syntax16) (w : World) (vars : List Variable) (names : List Name) (x : State) (r : ready.State) : Type 0 where
  pub inner : List Variable
  pub body : (m : sem.Moment) (n : Moment) → Shows syntax (in_block vars []) m n → BodyShows syntax vars inner (run w w.around.scope no_label x.body m) (parser_run r.body n)
  pub transition : transition_ready (behind x.body w.around.scope) (seats_behind syntax w vars inner) names x.transition ≡ Some r.transition
  pub layouts : (behind x.body w.around.scope).layouts ≡ layouts_of syntax.decls
  pub seated : NamesSeated (behind x.body w.around.scope) (seats_behind syntax w vars inner)
  pub keeps : TransitionKeeps (behind x.body w.around.scope) x.transition

-- a parser is made ready, which stands in these surroundings

abbrev pub parser_world : Setting → Parser16 → World
parser_world c p = quiet_world (around_parser c p)

-- Emptying the headers, starting the variables, and putting an error into `parser_error` come to what is one; and the states do
-- the same.
pub record ParserIsMade (c : Setting) (p : Parser16) (vars : List Variable) (r : ready.Parser) : Type 0 where
  pub headers : (m : sem.Moment) (n : Moment) → Shows c.syntax nobody m n → Shows c.syntax nobody (without_headers c m) (ready.with_headers_empty r.headers n)
  pub variables : (m : sem.Moment) (n : Moment) → Shows c.syntax nobody m n → m.stopped ≡ None → Shows c.syntax (in_block vars []) (begun (parser_world c p) p.vars m) (parser_run r.variables n)
  pub states : StatesShow c.syntax (parser_world c p) vars (state_names p.states) p.states r.states
  pub first : r.first ≡ number_of_state (state_names p.states) (codes "start")
  pub error : (m : sem.Moment) (n : Moment) (e : ParserError) → Shows c.syntax nobody m n → Shows c.syntax nobody (with_error (Some e) m) (ready.with_error r.error (Some e) n)
