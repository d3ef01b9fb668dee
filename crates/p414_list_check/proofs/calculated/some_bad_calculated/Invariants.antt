use Rattle.std.proofs.Common.{◌≡◌, drop}
use Rattle.std.specs.List.{list_any}
use Rattle.p414_syntax.specs.Lists.{is_bad_calculated, calculated_fields}
use Rattle.p414_list_check.proofs.calculated.some_bad_calculated.Given as goal

abbrev pub invariant-loop-decl : goal.invariant-loop-decl
invariant-loop-decl l = list_any (is_bad_calculated l.names) (calculated_fields (drop l.decl-index l.decls)) ≡ list_any (is_bad_calculated l.names) (calculated_fields l.decls)
