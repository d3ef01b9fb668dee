use Rattle.std.proofs.Common.{◌≡◌, drop}
use Rattle.std.specs.List.{list_any}
use Rattle.p414_preserved_check.specs.internal.Marks.{is_missing}
use Rattle.p414_preserved_check.proofs.payload.some_missing.Given as goal

abbrev pub invariant-loop-name : goal.invariant-loop-name
invariant-loop-name l = list_any (is_missing l.names) (drop l.name-index l.input) ≡ list_any (is_missing l.names) l.input
