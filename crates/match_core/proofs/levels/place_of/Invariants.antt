use Rattle.std.proofs.Common.{ℕ, ◌<◌, get_or}
use Rattle.match_core.specs.declared.levels.Level.{Level}
use Rattle.match_core.proofs.levels.place_of.Given as goal

abbrev pub invariant-loop-i : goal.invariant-loop-i
invariant-loop-i l = (k : ℕ) (d : Level) → k < l.i → l.bits < (get_or l.levels k d).bits
