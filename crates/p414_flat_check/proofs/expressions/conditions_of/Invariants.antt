use Rattle.std.proofs.Common.{◌≡◌, ◌++◌, drop}
use Rattle.p414_syntax.specs.Expressions.{conditions_of}
use Rattle.p414_flat_check.proofs.expressions.conditions_of.Given as goal

abbrev pub invariant-loop-decl : goal.invariant-loop-decl
invariant-loop-decl l = l.found.items ++ conditions_of (drop l.decl-index l.decls) ≡ conditions_of l.decls
