use Rattle.std.proofs.Common.{rules}
use Rattle.p414_parse_run.proofs.Accepted.{ready_fits}
use Rattle.p414_parse_run.proofs.program.ready14.Goals as goal

pub returns-clause-fits : goal.returns-clause-fits
returns-clause-fits c = ready_fits c.args.program.now c.ready_parser.result c.syntax.ensures.accepted (search rules)
