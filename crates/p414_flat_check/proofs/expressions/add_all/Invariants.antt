use Rattle.std.proofs.Common.{◌≡◌, ◌++◌, take}
use Rattle.p414_flat_check.proofs.expressions.add_all.Given as goal

abbrev pub invariant-loop-expression : goal.invariant-loop-expression
invariant-loop-expression l = l.found.items ≡ l.fn.found.items ++ take l.expression-index l.more
