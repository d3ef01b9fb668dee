use Rattle.std.proofs.Common.{◌≡◌, ◌++◌, map, drop}
use Rattle.p414_syntax.specs.References.{referred}
use Rattle.p414_syntax.specs.declared.syntax.Sort.TheVariants as sort
use Rattle.p414_syntax.specs.Names.{names_in}
use Rattle.p414_ready_actions.proofs.names.calculation_names.Given as goal

abbrev pub invariant-loop-decl : goal.invariant-loop-decl
invariant-loop-decl l = map referred l.found.items ++ names_in sort.Calculation (drop l.decl-index l.decls) ≡ names_in sort.Calculation l.decls
