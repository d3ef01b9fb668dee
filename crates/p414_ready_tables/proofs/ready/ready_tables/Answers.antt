use Rattle.std.proofs.Common.{rules}
use Rattle.p414_ready_tables.proofs.Applying.{ready_made}
use Rattle.p414_ready_tables.proofs.ready.ready_tables.Goals as goal

pub invariant_of-result : goal.invariant_of-result
invariant_of-result c =
    ready_made c.args.program.now.decls c.as_slice.result.now c.args.signature.now c.args.entries.now c.args.store.now.shapes
    c.in_ok-tables.tables c.as_slice-2.result.now c.in_ok-filled.filled c.in_ok-actions.actions (search rules)
    c.requires.signature c.requires.shapes (search rules) c.in_ok-tables.ensures c.in_ok-filled.ensures
    c.in_ok-actions.ensures.is (c.in_ok-actions_fit.ensures c.if-not-branch.false)
    (c.tables_fit.ensures c.if-not-tables_fit.false)
