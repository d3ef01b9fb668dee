use Rattle.std.proofs.Common.{◌≡◌, ◌++◌, map, drop}
use Rattle.std.specs.List.{flat_map}
use Rattle.p414_syntax.specs.Uses.{uses_of_calc}
use Rattle.p414_uses.specs.Shown.{shown_use}
use Rattle.p414_uses.proofs.collect.lists.add_entries.Given as goal

abbrev pub invariant-loop-entry : goal.invariant-loop-entry
invariant-loop-entry l = map shown_use l.found.items ++ flat_map uses_of_calc (drop l.entry-index l.entries) ≡ map shown_use l.fn.found.items ++ flat_map uses_of_calc l.entries
