use Rattle.std.proofs.Common.{length}
use Rattle.v1_statement_run.proofs.Turning.{bring_stopped}
use Rattle.v1_statement_run.proofs.incoming.bring_all.Goals as goal

pub returns-then-is_stopped : goal.returns-then-is_stopped
returns-then-is_stopped g c =
    bring_stopped _ _ _ (length c.args.code.now.statements.nodes) c.loop-apart.at _ _ c.is_stopped.result c.is_stopped.ensures
    c.if-is_stopped.true c.loop-apart.invariant
