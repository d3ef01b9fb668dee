use Rattle.std.proofs.Common.{◌≡◌, drop, map}
use Rattle.std.specs.List.{list_any}
use Rattle.p414_syntax.specs.References.{referred}
use Rattle.p414_preserved_check.specs.internal.Marks.{is_missing}
use Rattle.p414_preserved_check.proofs.marks.some_missing.Given as goal

abbrev pub invariant-loop-name : goal.invariant-loop-name
invariant-loop-name l = list_any (is_missing l.names) (map referred (drop l.name-index l.listed)) ≡ list_any (is_missing l.names) (map referred l.listed)
