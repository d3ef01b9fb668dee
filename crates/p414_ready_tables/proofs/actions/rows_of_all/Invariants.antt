use Rattle.p414_ready_tables.specs.internal.Acting.{AreMeant}
use Rattle.p414_ready_tables.proofs.actions.rows_of_all.Given as goal

abbrev pub invariant-loop-decl : goal.invariant-loop-decl
invariant-loop-decl l = AreMeant l.names l.rows
