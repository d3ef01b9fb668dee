use Rattle.std.proofs.Common.{sym, ◌∙◌}
use Rattle.v1_ready_whole.proofs.Standing.{no_parser}
use Rattle.v1_ready_whole.proofs.parser.parser_of_standing.Goals as goal

pub parser_over-requires-clause-error : goal.parser_over-requires-clause-error
parser_over-requires-clause-error c = sym c.in-Some.is ∙ c.in_ok-slot.ensures

pub returns-in-None-clause-parser : goal.returns-in-None-clause-parser
returns-in-None-clause-parser c = no_parser c.args.program.syntax.now c.args.parser.now c.in_ok-slot.slot c.in_ok-slot.ensures c.in-None.is
