use Rattle.std.proofs.Common.{◌≡◌, ◌∷◌, ◌++◌, drop}
use Rattle.match_core.specs.Identity.{counted_all}
use Rattle.match_core.proofs.identity.push_identity.Given as goal

abbrev pub invariant-loop-i : goal.invariant-loop-i
invariant-loop-i l = l.fn.key ++ (l.entry.priority ∷ counted_all l.specs l.ones) ≡ l.key ++ counted_all (drop l.i l.specs) (drop l.i l.ones)
