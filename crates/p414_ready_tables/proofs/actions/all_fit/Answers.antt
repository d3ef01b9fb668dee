use Rattle.std.proofs.Common.{rules, ◌≡◌, ◌≤◌, length, get_or, subst}
use Rattle.p414_ready_tables.specs.internal.Acting.{FitAll}
use Rattle.p414_ready_tables.proofs.Acting.{fit_end, fit_more}
use Rattle.p414_ready_tables.proofs.actions.all_fit.Goals as goal

pub loop-rows-preserved : goal.loop-rows-preserved
loop-rows-preserved c =
    let same : c.rows-item.result ≡ get_or c.args.all.now c.loop-rows.rows-index c.rows-item.result = cc c.rows-item.is in
    fit_more (FitAll c.args.state.now.layout c.args.store.now.shapes) c.args.all.now c.loop-rows.rows-index c.rows-item.result
    c.loop-rows-test.true
    (subst (FitAll c.args.state.now.layout c.args.store.now.shapes) same (c.rows_fit.ensures c.if-not-rows_fit.false))
    c.loop-rows.invariant

pub returns : goal.returns
returns c =
    λ fits.
    let end : length c.args.all.now ≤ c.loop-rows.rows-index = search rules in
    fit_end (FitAll c.args.state.now.layout c.args.store.now.shapes) c.args.all.now c.loop-rows.rows-index end
    c.loop-rows.invariant
