use Rattle.std.proofs.Common.{◌≡◌, drop}
use Rattle.p416_syntax.specs.Tree.{stmt_at}
use Rattle.lower_laws_base.specs.Context.{entry}
use Rattle.lower_laws_actions.specs.Mirror.{behind_stmts}
use Rattle.lower_primitives.specs.Rows.{row_front}
use Rattle.lower_bodies.specs.Bodies.{rows_by}
use Rattle.lower_bodies.proofs.Rows.{GoesRows}
use Rattle.lower_bodies.proofs.bodies.fronts.Given as goal

abbrev pub invariant-loop-row : goal.invariant-loop-row
invariant-loop-row l = record {
  same : l.number ≡ l.row-index;
  goes : GoesRows l.fn.table (row_front l.fn.table entry) l.fn.nodes l.nodes l.done l.row-index (drop l.row-index l.fn.rows) (behind_stmts (stmt_at l.fn.nodes.stmts l.fn.done) (rows_by (row_front l.fn.table entry) 0 l.fn.rows));
}
