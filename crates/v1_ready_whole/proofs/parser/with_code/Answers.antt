use Rattle.v1_ready_whole.proofs.Making.{can_run}
use Rattle.v1_ready_whole.proofs.parser.with_code.Goals as goal

pub returns-clause-runs : goal.returns-clause-runs
returns-clause-runs c = λ held same. can_run c.args.nodes _ c.nodes.view_is c.new.ensures held same
