use Rattle.std.proofs.Common.{◌≡◌, drop}
use Rattle.match_core.specs.Matching.{matches}
use Rattle.match_core.proofs.scan.matches.Given as goal

abbrev pub invariant-loop-i : goal.invariant-loop-i
invariant-loop-i l = matches (drop l.i l.specs) (drop l.i l.ones) (drop l.i l.key) ≡ matches l.specs l.ones l.key
