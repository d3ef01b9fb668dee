use Rattle.std.proofs.Common.{◌≡◌, map, take}
use Rattle.match_core.specs.internal.Index.{value_of}
use Rattle.match_core.proofs.exact.key_of.Given as goal

abbrev pub invariant-loop-one : goal.invariant-loop-one
invariant-loop-one l = l.key ≡ map value_of (take l.one-index l.ones)
