use Rattle.std.proofs.Common.{◌≡◌, ◌++◌, map, drop}
use Rattle.std.specs.List.{flat_map}
use Rattle.p414_syntax.specs.Uses.{uses_of_value}
use Rattle.std.proofs.Common.{option_copied}
use Rattle.p414_uses.specs.Shown.{shown_use}
use Rattle.p414_uses.proofs.collect.parsers.add_values.Given as goal

abbrev pub invariant-loop-value : goal.invariant-loop-value
invariant-loop-value l = map shown_use l.found.items ++ flat_map (uses_of_value (option_copied l.last)) (drop l.value-index l.values) ≡ map shown_use l.fn.found.items ++ flat_map (uses_of_value (option_copied l.last)) l.values
