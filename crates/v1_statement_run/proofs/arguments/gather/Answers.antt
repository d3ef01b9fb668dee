use Rattle.std.proofs.Common.{length}
use Rattle.v1_statement_run.proofs.Passing.{gather_stopped}
use Rattle.v1_statement_run.proofs.arguments.gather.Goals as goal

pub returns-then-is_stopped : goal.returns-then-is_stopped
returns-then-is_stopped g c =
    gather_stopped _ _ _ (length c.args.code.now.statements.nodes) c.loop-place.at _ _ _ c.is_stopped.result c.is_stopped.ensures
    c.if-is_stopped.true c.loop-place.invariant
