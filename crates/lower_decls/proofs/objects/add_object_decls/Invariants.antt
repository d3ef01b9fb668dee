use Rattle.std.proofs.Common.{◌≡◌, ◌++◌, filter_map, drop}
use Rattle.lower_laws_names.specs.Objects.{object_decl}
use Rattle.lower_decls.proofs.objects.add_object_decls.Given as goal

abbrev pub invariant-loop-decl : goal.invariant-loop-decl
invariant-loop-decl l = l.found ++ filter_map (object_decl l.names) (drop l.decl-index l.decl-items) ≡ l.fn.found ++ filter_map (object_decl l.names) l.decl-items
