use Rattle.std.proofs.Common.{◌≡◌, take}
use Rattle.std.specs.List.{flat_map}
use Rattle.p414_syntax.specs.Subtrees.{own_conditions}
use Rattle.p414_syntax.proofs.walk.conditions_in.Given as goal

abbrev pub invariant-loop-statement : goal.invariant-loop-statement
invariant-loop-statement l = l.found.items ≡ flat_map own_conditions (take l.statement-index l.statements)
