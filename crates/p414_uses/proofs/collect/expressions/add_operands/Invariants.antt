use Rattle.std.proofs.Common.{◌≡◌, ◌++◌, map, drop}
use Rattle.std.specs.List.{flat_map}
use Rattle.p414_syntax.specs.Uses.{own_operand}
use Rattle.p414_uses.specs.Shown.{shown_use}
use Rattle.p414_uses.proofs.collect.expressions.add_operands.Given as goal

abbrev pub invariant-loop-operand : goal.invariant-loop-operand
invariant-loop-operand l = map shown_use l.found.items ++ flat_map own_operand (drop l.operand-index l.expressions) ≡ map shown_use l.fn.found.items ++ flat_map own_operand l.expressions
