use Rattle.std.proofs.Common.{◌≡◌, drop}
use Rattle.std.specs.List.{list_any}
use Rattle.p414_syntax.specs.Tables.{tables, has_bad_keys}
use Rattle.p414_flat_check.proofs.tables.some_bad_keys.Given as goal

abbrev pub invariant-loop-decl : goal.invariant-loop-decl
invariant-loop-decl l = list_any (has_bad_keys l.names) (tables (drop l.decl-index l.decls)) ≡ list_any (has_bad_keys l.names) (tables l.decls)
