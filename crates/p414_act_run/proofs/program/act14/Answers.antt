use Rattle.std.proofs.Common.{rules, ◌≡◌, sym, subst}
use Rattle.p414_ready_actions.specs.Meaning.{Means}
use Rattle.p414_act_run.specs.Sums.{sums_in}
use Rattle.p414_act_run.proofs.Summing.{act_moves}
use Rattle.p414_act_run.proofs.program.act14.Goals as goal

pub returns-clause-acts : goal.returns-clause-acts
returns-clause-acts c =
    let same : c.as_slice-2.result.now ≡ c.in_ok-rows.rows = search rules in
    act_moves c.args.program.now.decls c.args.action c.as_slice-2.result.now (sums_in c.in_ok-calculations.calculations) c.args.rule
    c.args.arguments.now c.args.state.now c.act_ready.new.state c.args.store.now c.act_ready.new.store
    (subst (Means c.args.program.now.decls c.args.action) (sym same) c.in_ok-rows.ensures) c.in_ok-calculations.ensures
    c.in_ok-act_ready.ensures
