use Rattle.std.proofs.Common.{rules, ◌≡◌}
use Rattle.p414_ready_tables.proofs.Acting.{actions_made}
use Rattle.p414_ready_tables.proofs.actions.ready_actions.Goals as goal

pub returns-clause-is : goal.returns-clause-is
returns-clause-is c =
    let same : c.as_slice.result.now ≡ c.args.program.now.decls = search rules in
    actions_made c.args.program.now.decls c.as_slice.result.now c.in_ok-rows.rows c.in_ok-calculations.calculations
    c.args.rule same c.in_ok-rows.ensures c.in_ok-calculations.ensures
