use Rattle.p414_act_run.specs.Sums.{sums_in}
use Rattle.p414_act_run.proofs.Turns.{parallel_moves}
use Rattle.p414_act_run.proofs.run.run_in_parallel.Goals as goal

pub returns : goal.returns
returns c =
    parallel_moves (sums_in c.args.calculations.now) c.args.arguments.now c.args.rows.now c.in_ok-effects.effects
    c.args.state.now c.let_fall.new.state c.args.store.now c.let_fall.new.store c.in_ok-effects.ensures c.in_ok-let_fall.ensures
