use Rattle.std.proofs.Common.{◌≡◌, drop, map}
use Rattle.std.specs.List.{list_any}
use Rattle.p414_syntax.specs.References.{referred}
use Rattle.p414_preserved_check.specs.internal.Named.{some_input_missing}
use Rattle.p414_preserved_check.proofs.payload.any_missing.Given as goal

abbrev pub invariant-loop-calculation : goal.invariant-loop-calculation
invariant-loop-calculation l = list_any (some_input_missing l.names) (map referred (drop l.calculation-index l.calculations)) ≡ list_any (some_input_missing l.names) (map referred l.calculations)
