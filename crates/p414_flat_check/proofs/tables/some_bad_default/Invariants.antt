use Rattle.std.proofs.Common.{◌≡◌, drop}
use Rattle.std.specs.List.{list_any}
use Rattle.p414_syntax.specs.Tables.{tables, defaults_badly}
use Rattle.p414_flat_check.proofs.tables.some_bad_default.Given as goal

abbrev pub invariant-loop-decl : goal.invariant-loop-decl
invariant-loop-decl l = list_any (defaults_badly l.names) (tables (drop l.decl-index l.decls)) ≡ list_any (defaults_badly l.names) (tables l.decls)
