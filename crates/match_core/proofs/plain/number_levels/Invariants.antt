use Rattle.std.proofs.Common.{[], ◌∷◌}
use Rattle.match_core.specs.internal.Levels.{AreLevels}
use Rattle.match_core.specs.internal.Codes.{IsCodeIndex, number_found}
use Rattle.match_core.proofs.plain.number_levels.Given as goal

abbrev pub invariant-loop-i : goal.invariant-loop-i
invariant-loop-i l = record {
  levels : AreLevels l.levels.items;
  index : IsCodeIndex (l.spec ∷ []) l.entries l.i (number_found l.levels.items);
}
