use Rattle.v1_block_run.proofs.Looping.{runs_opened}
use Rattle.v1_block_run.proofs.run.run_task.Goals as goal

pub returns-in_ok-taken-in-Run-clause-leads : goal.returns-in_ok-taken-in-Run-clause-leads
returns-in_ok-taken-in-Run-clause-leads g c =
    runs_opened (g.T.Tables.applies c.args.tables.now) c.args.block.now c.args.octets.now c.behind-unparsed.result.now c.args.parsed
    c.args.frame.now c.run_statement.new.frame c.args.store.now c.run_statement.new.store c.args.run.now c.run_statement.new.run
    c.args.tasks.now c.run_statement.new.tasks c.behind-unparsed.ensures.is c.args.next c.in-Run.level c.in-Run.ran c.in-Run.place
    c.in_ok-first-in-Run.first c.in_ok-taken-in-Run.taken c.first_of.new.tasks c.in-Run.is c.in_ok-first-in-Run.ensures
    c.in_ok-taken-in-Run.ensures.leads
