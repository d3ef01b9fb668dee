use Rattle.std.proofs.Common.{◌≡◌, drop, map}
use Rattle.std.specs.List.{list_any}
use Rattle.p414_syntax.specs.References.{referred}
use Rattle.p414_preserved_check.specs.internal.Named.{some_input_marked}
use Rattle.p414_preserved_check.proofs.payload.any_marked.Given as goal

abbrev pub invariant-loop-calculation : goal.invariant-loop-calculation
invariant-loop-calculation l = list_any (some_input_marked l.names l.marks) (map referred (drop l.calculation-index l.calculations)) ≡ list_any (some_input_marked l.names l.marks) (map referred l.calculations)
