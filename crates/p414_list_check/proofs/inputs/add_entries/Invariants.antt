use Rattle.std.proofs.Common.{◌≡◌, ◌++◌, drop, flat_map}
use Rattle.p414_list_check.specs.internal.Expanded.{entry_numbers}
use Rattle.p414_list_check.proofs.inputs.add_entries.Given as goal

abbrev pub invariant-loop-entry : goal.invariant-loop-entry
invariant-loop-entry l = l.found.items ++ flat_map (entry_numbers l.names) (drop l.entry-index l.entries) ≡ l.fn.found.items ++ flat_map (entry_numbers l.names) l.entries
