use Rattle.std.proofs.Common.{◌≡◌, ◌++◌, map, drop}
use Rattle.std.specs.List.{flat_map}
use Rattle.p414_syntax.specs.Uses.{own_uses}
use Rattle.p414_uses.specs.Shown.{shown_use}
use Rattle.p414_uses.proofs.collect.controls.add_statements.Given as goal

abbrev pub invariant-loop-statement : goal.invariant-loop-statement
invariant-loop-statement l = map shown_use l.found.items ++ flat_map own_uses (drop l.statement-index l.statements) ≡ map shown_use l.fn.found.items ++ flat_map own_uses l.statements
