use Rattle.p414_parse_run.proofs.Turns.{stopped}
use Rattle.p414_parse_run.proofs.statements.run_statements.Goals as goal

pub returns-in-Stopped : goal.returns-in-Stopped
returns-in-Stopped c =
    stopped c.args.state.now c.loop-statement.state c.run_statement.new.state c.args.statements.now c.loop-statement.statement-index c.loop-statement.element _ c.in_ok-next.field-0 c.in-Stopped.end
    c.loop-statement-test.true c.loop-statement.invariant.layout c.loop-statement.invariant.same c.in_ok-next.ensures c.in-Stopped.is
