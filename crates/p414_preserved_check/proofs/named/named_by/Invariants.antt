use Rattle.std.proofs.Common.{◌≡◌, ◌++◌, drop, map, flat_map}
use Rattle.p414_syntax.specs.References.{referred}
use Rattle.p414_preserved_check.specs.internal.Named.{named_by}
use Rattle.p414_preserved_check.proofs.named.named_by.Given as goal

abbrev pub invariant-loop-action : goal.invariant-loop-action
invariant-loop-action l = map referred l.found.items ++ flat_map (named_by l.wanted) (drop l.action-index l.actions) ≡ flat_map (named_by l.wanted) l.actions
