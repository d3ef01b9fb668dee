use Rattle.std.proofs.Common.{◌≡◌, drop}
use Rattle.std.specs.List.{list_any}
use Rattle.p414_syntax.specs.Lists.{calculated_fields}
use Rattle.p414_syntax.specs.CalculatedFields.{has_calculated_entry}
use Rattle.p414_flat_check.proofs.calculated.some_calculated_condition.Given as goal

abbrev pub invariant-loop-decl : goal.invariant-loop-decl
invariant-loop-decl l = list_any (has_calculated_entry l.fields) (calculated_fields (drop l.decl-index l.decls)) ≡ list_any (has_calculated_entry l.fields) (calculated_fields l.decls)
