use Rattle.std.proofs.Common.{◌≡◌, ◌++◌, drop}
use Rattle.std.specs.List.{list_any}
use Rattle.p414_syntax.specs.Fields.{types}
use Rattle.p414_syntax.specs.Twice.{has_field_twice}
use Rattle.p414_names.proofs.types.types_of.Given as goal

abbrev pub invariant-loop-decl : goal.invariant-loop-decl
invariant-loop-decl l = record {
  found : l.found.items ++ types (drop l.decl-index l.decls) ≡ types l.decls;
  same : list_any has_field_twice (types (drop l.decl-index l.decls)) ≡ list_any has_field_twice (types l.decls);
}
