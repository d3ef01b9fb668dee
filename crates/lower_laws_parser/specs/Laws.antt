-- What holds of the parser and the deparser as they are written (this project's own; P4_14 1.0.5, "Parser
-- Specification", "Deparsing"; P4_16 1.2, "Packet parsing", "Deparsing").
use Rattle.std.specs.Prelude.{◌≡◌, ◌≢◌, ℕ, List, [], Some}
use Rattle.p414_syntax.specs.declared.parsers.Parser.{Parser}
use Rattle.p414_syntax.specs.declared.syntax.Decl.{Decl}
use Rattle.p414_syntax.specs.Names.{Name}
use Rattle.p414_sem.specs.Effects.{Moment as Moment14}
use Rattle.p414_sem.specs.Parsing.{parsed, state_named}
use Rattle.p416_syntax.specs.declared.parsers.Parser16.{Parser16}
use Rattle.v1_core.specs.Frames.{Moment}
use Rattle.v1_core.specs.Parsing.{around_parser, parser_of, parse16}
use Rattle.v1_core.specs.Surroundings.{Setting, quiet_world}
use Rattle.lower_laws_base.specs.Between.{Beside}
use Rattle.lower_laws_base.specs.Blocks.{ParserEnds}
use Rattle.lower_laws_base.specs.Context.{Lowering}
use Rattle.lower_laws_base.specs.Types.{DeclsShown, ZerosAlike}
use Rattle.lower_laws_parser.specs.Parsing.{parser_words, StateFits, Parses, NeverStopped}
use Rattle.lower_laws_parser.specs.Starts.{Begins}

-- A parser that begins as it is written ends as that of P4_14 does, in one of its four ways, beside the same moment.
abbrev pub ParsersEnd : Type 0
ParsersEnd =
    (c : Lowering) (ds : List Decl) (packet : Name) (state : Name → Name) (setting : Setting) (q : Parser16) →
    c.world ≡ quiet_world (around_parser setting q) → Parses c ds packet c.world.around.scope → q.vars ≡ [] → parser_of setting.syntax ≡ Some q →
    DeclsShown c.layout ds → ZerosAlike c.layout setting.syntax → NeverStopped ds → ((a b : Name) → a ≢ b → state a ≢ state b) →
    ((called : Name) (y : Parser) → state_named ds called ≡ Some y → StateFits c ds (parser_words c packet state) y) →
    (sum : ℕ) (x : Moment14) (m : Moment) → Beside c.layout 0 sum x m → Begins c ds (parser_words c packet state) q.states →
    ParserEnds c.layout sum x.store m (parsed ds x.state) (parse16 setting m)
