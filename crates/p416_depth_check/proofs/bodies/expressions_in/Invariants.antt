use Rattle.std.proofs.Common.{◌≡◌, ◌++◌, flat_map, drop}
use Rattle.p416_syntax.specs.Subtrees.{own_expressions}
use Rattle.p416_depth_check.proofs.bodies.expressions_in.Given as goal

abbrev pub invariant-loop-statement : goal.invariant-loop-statement
invariant-loop-statement l = l.found.items ++ flat_map own_expressions (drop l.statement-index l.statements) ≡ flat_map own_expressions l.statements
