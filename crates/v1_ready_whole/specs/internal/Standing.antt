-- How the parser stands in a program.
use Rattle.std.specs.Prelude.{◌≡◌, map}
use Rattle.p416_syntax.specs.declared.parsers.Parser16.{Parser16}
use Rattle.p416_scopes.specs.Seen.{seen_scope}
use Rattle.v1_core.specs.Layouts.{Layout}
use Rattle.v1_block_laws.specs.Variables.{scope_in_parser, parser_from, states_from, parser_seats}
use Rattle.v1_ready_selects.specs.Matching.{state_names}
use Rattle.v1_ready_blocks.specs.Nodes.{IsRange}
use Rattle.v1_ready_program.specs.Seen.{seen_seats}
use Rattle.v1_ready_states.specs.declared.states.ReadyParser.{ReadyParser}
use Rattle.v1_parse_run.specs.Made.{HoldsErrors}
use Rattle.v1_ready_controls.specs.declared.program.ProgramParts.{ProgramParts}
use Rattle.v1_ready_locals.specs.Owned.{seen_own, owned}
use Rattle.v1_ready_whole.specs.Parsers.{vars_of}
use Rattle.v1_ready_whole.specs.declared.parser.Standing16.{Standing16}

-- this is the parser that stands in a program
pub record IsParser (p : ProgramParts) (parser : Parser16) (x : Standing16) : Type 0 where
  pub scope : seen_scope x.scope ≡ scope_in_parser p.syntax.now parser
  pub top : x.scope.top ≡ p.top
  pub seats : seen_seats x.seats ≡ parser_seats p.syntax.now parser
  pub variables : map seen_own x.variables.items ≡ owned (scope_in_parser p.syntax.now parser) (parser_from p.syntax.now parser) (vars_of parser)
  pub number : x.number ≡ states_from p.syntax.now parser
  pub names : x.names ≡ state_names parser.states

-- its headers and its slot are those of a layout
pub record IsParserOver (l : Layout) (r : ReadyParser) : Type 0 where
  pub headers : IsRange l r.headers
  pub error : HoldsErrors l r.error
