use Rattle.v1_parse_run.proofs.Holding.{place_there}
use Rattle.v1_parse_run.proofs.states.run_body.Goals as goal

pub run_statements-requires-clause-place : goal.run_statements-requires-clause-place
run_statements-requires-clause-place c = place_there c.args.code.now c.args.statements c.requires.there
