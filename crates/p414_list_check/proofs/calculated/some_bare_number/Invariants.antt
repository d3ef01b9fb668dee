use Rattle.std.proofs.Common.{◌≡◌, drop}
use Rattle.std.specs.List.{list_any}
use Rattle.p414_syntax.specs.Lists.{has_bare_number}
use Rattle.p414_list_check.proofs.calculated.some_bare_number.Given as goal

abbrev pub invariant-loop-decl : goal.invariant-loop-decl
invariant-loop-decl l = list_any has_bare_number (drop l.decl-index l.decls) ≡ list_any has_bare_number l.decls
