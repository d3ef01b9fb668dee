use Rattle.std.proofs.Common.{◌≡◌, drop}
use Rattle.std.specs.List.{list_any}
use Rattle.p414_syntax.specs.Names.{names_in}
use Rattle.p414_syntax.specs.Twice.{is_reserved}
use Rattle.p414_names.proofs.scope.some_reserved.Given as goal

abbrev pub invariant-loop-decl : goal.invariant-loop-decl
invariant-loop-decl l = list_any (is_reserved l.sort) (names_in l.sort (drop l.decl-index l.decls)) ≡ list_any (is_reserved l.sort) (names_in l.sort l.decls)
