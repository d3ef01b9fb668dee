use Rattle.std.proofs.Common.{◌≡◌, ◌≤◌, length, map, drop}
use Rattle.name_numbers.specs.Names.{find_name}
use Rattle.v1_ready_nodes.specs.Held.{Grows}
use Rattle.v1_ready_tests.specs.internal.Coded.{seen_marked, seen_all, AreMadeIn}
use Rattle.v1_ready_tests.specs.internal.Passes.{all_made}
use Rattle.v1_ready_tests.proofs.tests.build.Given as goal

abbrev pub invariant-loop-left : goal.invariant-loop-left
invariant-loop-left l = record {
  made : seen_all l.nodes l.made ≡ all_made (find_name l.tables) (map seen_marked (drop l.left l.plans)) (drop l.left l.views);
  within : AreMadeIn l.nodes l.made;
  grows : Grows l.fn.nodes l.nodes;
  few : l.left ≤ length l.views;
}

abbrev pub decreases-loop-left : goal.decreases-loop-left
decreases-loop-left l = l.left
