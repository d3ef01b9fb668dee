use Rattle.std.proofs.Common.{◌≡◌, ◌++◌, drop, map}
use Rattle.p414_syntax.specs.declared.syntax.Sort.TheVariants as sort
use Rattle.p414_syntax.specs.Names.{declared_in}
use Rattle.p414_preserved_check.specs.internal.Asking.{initial_set, initial_sets}
use Rattle.p414_preserved_check.proofs.asking.initial_sets.Given as goal

abbrev pub invariant-loop-decl : goal.invariant-loop-decl
invariant-loop-decl l = l.sets.items ++ map initial_set (declared_in sort.Instance (drop l.decl-index l.decls)) ≡ initial_sets l.decls
