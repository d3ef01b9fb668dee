use Rattle.std.proofs.Common.{◌≡◌, ℕ, ◌<◌, None, get_or, length}
use Rattle.std.specs.Ordering.{nat_cmp}
use Rattle.match_core.specs.declared.levels.Level.{Level}
use Rattle.match_core.specs.internal.Maps.{stored}
use Rattle.match_core.specs.internal.Codes.{part_by}
use Rattle.match_core.proofs.plain.find_number.Given as goal

abbrev pub invariant-loop-level : goal.invariant-loop-level
invariant-loop-level l =
    (k : ℕ) (d : Level) → k < l.level-index → k < length l.levels → stored nat_cmp (get_or l.levels k d).map (part_by l.spec.kind l.spec.width (get_or l.levels k d).bits l.value) ≡ None
