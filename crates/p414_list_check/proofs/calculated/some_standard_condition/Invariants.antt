use Rattle.std.proofs.Common.{◌≡◌, drop}
use Rattle.std.specs.List.{list_any}
use Rattle.p414_syntax.specs.Lists.{is_standard_condition}
use Rattle.p414_list_check.proofs.calculated.some_standard_condition.Given as goal

abbrev pub invariant-loop-entry : goal.invariant-loop-entry
invariant-loop-entry l = list_any is_standard_condition (drop l.entry-index l.entries) ≡ list_any is_standard_condition l.entries
