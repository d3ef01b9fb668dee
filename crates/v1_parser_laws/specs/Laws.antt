-- That ready transitions lead where those of the program do.
use Rattle.std.specs.Prelude.{◌≡◌, ℕ, List, IfSome, Some, None}
use Rattle.p416_syntax.specs.declared.parsers.State.{State}
use Rattle.p416_syntax.specs.declared.parsers.Parser16.{Parser16}
use Rattle.p416_syntax.specs.declared.parsers.Transition.{Transition}
use Rattle.p416_syntax.specs.declared.program.Syntax16.{Syntax16}
use Rattle.p416_syntax.specs.Names.{Name}
use Rattle.p416_syntax.specs.Scopes.{Scope}
use Rattle.p416_syntax.specs.Declarations.{layouts_of}
use Rattle.p416_syntax.specs.Breaks.{BreaksNone, program_rules}
use Rattle.v1_core.specs.Frames.{Moment}
use Rattle.v1_core.specs.Parsing as parsing
use Rattle.v1_core.specs.Surroundings.{Setting, World}
use Rattle.v1_core.specs.Numbered.{Variable, InScope, nobody, frame_in}
use Rattle.v1_core.specs.Parsing.{leads}
use Rattle.v1_core.specs.Cells.{Cells}
use Rattle.v1_core.specs.Programs.{numbered16}
use Rattle.v1_core.specs.PackedFrames.{IsFrameOf}
use Rattle.v1_ready_forms.specs.Named.{seats_in}
use Rattle.v1_ready_laws.specs.Rules.{NamesSeated}
use Rattle.v1_ready_selects.specs.Selects.{lead}
use Rattle.v1_ready_selects.specs.Rows.{number_of_state}
use Rattle.v1_ready_selects.specs.Transitions.{transition_ready}
use Rattle.v1_ready_selects.specs.Matching.{state_names}
use Rattle.v1_ready_blocks.specs.Moments as blocks
use Rattle.v1_ready_states.specs.States as ready
use Rattle.v1_block_laws.specs.Keeping.{TransitionKeeps}
use Rattle.v1_parser_laws.specs.Leading.{LeadAlike}
use Rattle.v1_parser_laws.specs.Shown.{Shows, ShowsIn}
use Rattle.v1_parser_laws.specs.States.{StateShows, StatesShow, StateIsMade, ParserIsMade}

-- In a program that breaks no rule, over a frame of it, a transition whose keys keep the rules on types and sizes, in a scope whose
-- names are declared as what stands at their seats.
abbrev pub TransitionsLeadAlike : Type 0
TransitionsLeadAlike =
    (syntax : Syntax16) (c : Cells) (w : World) (s : Scope) (who : InScope) (m : Moment) (names : List Name)
    (t : Transition) → BreaksNone syntax program_rules → IsFrameOf syntax c → s.layouts ≡ layouts_of syntax.decls →
    m.frame ≡ frame_in who (numbered16 syntax c) → m.stopped ≡ None →
    NamesSeated s (seats_in syntax w.around.roots who) → TransitionKeeps s t →
    IfSome (transition_ready s (seats_in syntax w.around.roots who) names t)
    (λ r. LeadAlike names (leads w s t m) (lead c m.unparsed r) m)

-- a state that is made ready does what that of the program does
abbrev pub MadeStatesShow : Type 0
MadeStatesShow =
    (syntax : Syntax16) (w : World) (vars : List Variable) (names : List Name) (x : State) (r : ready.State) →
    BreaksNone syntax program_rules → StateIsMade syntax w vars names x r → StateShows syntax w vars names x r

-- where the states do the same, so does parsing, in as many states at most
abbrev pub ParsingShows : Type 0
ParsingShows =
    (syntax : Syntax16) (w : World) (vars : List Variable) (states : List State) (rows : List ready.State) (left : ℕ)
    (text : Name) (m : Moment) (n : blocks.Moment) → StatesShow syntax w vars (state_names states) states rows →
    ShowsIn syntax vars m n →
    ShowsIn syntax vars (parsing.parse_from w states left text m)
    (ready.parse_from rows left (number_of_state (state_names states) text) n)

-- so does a parser as a whole, with the same error
pub record ParseShows (syntax : Syntax16) (x : parsing.Parsed) (y : ready.Parsed) : Type 0 where
  pub error : x.error ≡ y.error
  pub moment : Shows syntax nobody x.moment y.moment

abbrev pub MadeParserShows : Type 0
MadeParserShows =
    (c : Setting) (p : Parser16) (vars : List Variable) (r : ready.Parser) (m : Moment) (n : blocks.Moment) →
    parsing.parser_of c.syntax ≡ Some p → ParserIsMade c p vars r → Shows c.syntax nobody m n → m.stopped ≡ None →
    ParseShows c.syntax (parsing.parse16 c m) (ready.ready_parse r n)
