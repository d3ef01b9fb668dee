use Rattle.std.proofs.Common.{◌≡◌, ◌++◌, drop}
use Rattle.p414_syntax.specs.Expressions.{lengths_of}
use Rattle.p414_flat_check.proofs.expressions.lengths_of.Given as goal

abbrev pub invariant-loop-decl : goal.invariant-loop-decl
invariant-loop-decl l = l.found.items ++ lengths_of (drop l.decl-index l.decls) ≡ lengths_of l.decls
