use Rattle.std.proofs.Common.{◌≡◌, ◌++◌, map, filter_map, drop}
use Rattle.lower_rows.specs.Named.{instance_shown}
use Rattle.lower_laws_names.specs.Instances.{shown_in}
use Rattle.lower_decls.proofs.rows.instance_rows.Given as goal

abbrev pub invariant-loop-decl : goal.invariant-loop-decl
invariant-loop-decl l = map instance_shown l.found ++ filter_map (shown_in l.names) (drop l.decl-index l.decl-items) ≡ filter_map (shown_in l.names) l.decl-items
