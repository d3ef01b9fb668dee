use Rattle.std.proofs.Common.{◌≡◌, ◌-◌, drop}
use Rattle.match_core.specs.Matching.{prefix_length}
use Rattle.match_core.proofs.scan.prefix_rank.Given as goal

abbrev pub invariant-loop-one : goal.invariant-loop-one
invariant-loop-one l = l.left - prefix_length (drop l.one-index l.ones) ≡ 128 - prefix_length l.ones
