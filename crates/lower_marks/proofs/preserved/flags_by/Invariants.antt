use Rattle.std.proofs.Common.{◌≡◌, ◌++◌, map, drop}
use Rattle.p414_syntax.specs.declared.syntax.Sort.TheVariants as sort
use Rattle.p414_syntax.specs.Names.{has_name, names_in}
use Rattle.lower_marks.proofs.preserved.flags_by.Given as goal

abbrev pub invariant-loop-decl : goal.invariant-loop-decl
invariant-loop-decl l = l.found ++ map (has_name l.known) (names_in sort.List (drop l.decl-index l.decls)) ≡ map (has_name l.known) (names_in sort.List l.decls)
