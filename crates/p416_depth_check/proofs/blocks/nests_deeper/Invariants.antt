use Rattle.std.proofs.Common.{◌≡◌}
use Rattle.std.specs.Prelude.{nat_lt}
use Rattle.std.specs.List.{list_any}
use Rattle.p416_syntax.specs.Statements.{nesting}
use Rattle.p416_depth_check.specs.internal.Walks.{stmt_is_deep}
use Rattle.p416_depth_check.proofs.Counts.{stmts_left}
use Rattle.p416_depth_check.proofs.blocks.nests_deeper.Given as goal

abbrev pub invariant-loop-next : goal.invariant-loop-next
invariant-loop-next l = list_any stmt_is_deep l.left ≡ nat_lt l.levels (nesting l.statements)

abbrev pub decreases-loop-next : goal.decreases-loop-next
decreases-loop-next l = stmts_left l.left
