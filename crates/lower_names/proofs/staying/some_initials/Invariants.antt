use Rattle.std.proofs.Common.{◌≡◌, drop}
use Rattle.std.specs.List.{list_any}
use Rattle.lower_laws_names.specs.NewNames.{gives_initials}
use Rattle.lower_names.proofs.staying.some_initials.Given as goal

abbrev pub invariant-loop-decl : goal.invariant-loop-decl
invariant-loop-decl l = list_any gives_initials (drop l.decl-index l.decls) ≡ list_any gives_initials l.decls
