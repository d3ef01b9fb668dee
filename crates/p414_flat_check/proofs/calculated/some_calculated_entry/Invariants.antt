use Rattle.std.proofs.Common.{◌≡◌, drop}
use Rattle.std.specs.List.{list_any}
use Rattle.p414_syntax.specs.CalculatedFields.{is_calculated_entry}
use Rattle.p414_flat_check.proofs.calculated.some_calculated_entry.Given as goal

abbrev pub invariant-loop-entry : goal.invariant-loop-entry
invariant-loop-entry l = list_any (is_calculated_entry l.fields) (drop l.entry-index l.entries) ≡ list_any (is_calculated_entry l.fields) l.entries
