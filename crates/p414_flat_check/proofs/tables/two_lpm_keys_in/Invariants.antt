use Rattle.std.proofs.Common.{◌≡◌, drop}
use Rattle.std.specs.List.{list_any}
use Rattle.p414_syntax.specs.Tables.{tables, has_two_prefixes}
use Rattle.p414_flat_check.proofs.tables.two_lpm_keys_in.Given as goal

abbrev pub invariant-loop-decl : goal.invariant-loop-decl
invariant-loop-decl l = list_any has_two_prefixes (tables (drop l.decl-index l.decls)) ≡ list_any has_two_prefixes (tables l.decls)
