use Rattle.std.proofs.Common.{◌≡◌, ◌<◌, ℕ, false, map, get_or, []}
use Rattle.entries_file.specs.Forms.{is_arrow}
use Rattle.entries_file.proofs.judge.arrow.Given as goal

abbrev pub invariant-loop-i : goal.invariant-loop-i
invariant-loop-i l = (k : ℕ) → k < l.i → is_arrow (get_or (map (λ word. word.now) l.words) k []) ≡ false
