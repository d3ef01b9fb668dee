use Rattle.std.proofs.Common.{◌≡◌, ◌≤◌, length, map, drop}
use Rattle.v1_core.specs.Kept.{trees}
use Rattle.v1_ready_program.specs.Seen.{Keeps}
use Rattle.v1_ready_program.specs.internal.Coded.{seen_plan, seen_values, AreValuesIn}
use Rattle.v1_ready_program.specs.internal.Passes.{built}
use Rattle.v1_ready_program.proofs.expressions.build.Given as goal

abbrev pub invariant-loop-left : goal.invariant-loop-left
invariant-loop-left l = record {
  values : seen_values (trees l.expressions) l.values ≡ built (map seen_plan (drop l.left l.plans)) (drop l.left l.views);
  within : AreValuesIn (length (trees l.expressions)) l.values;
  keeps : Keeps (trees l.fn.expressions) (trees l.expressions);
  layout : l.expressions.layout ≡ l.fn.expressions.layout;
  few : l.left ≤ length l.views;
}

abbrev pub decreases-loop-left : goal.decreases-loop-left
decreases-loop-left l = l.left
