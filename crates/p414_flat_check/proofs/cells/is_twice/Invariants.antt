use Rattle.std.proofs.Common.{◌≡◌, map, drop}
use Rattle.p414_syntax.specs.References.{referred}
use Rattle.p414_syntax.specs.Names.{repeats, repeats_behind}
use Rattle.p414_flat_check.proofs.cells.is_twice.Given as goal

abbrev pub invariant-loop-name : goal.invariant-loop-name
invariant-loop-name l = repeats_behind l.set (map referred (drop l.name-index l.names)) ≡ repeats (map referred l.names)
