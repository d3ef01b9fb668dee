use Rattle.std.proofs.Common.{◌≡◌, ◌++◌, map, length}
use Rattle.p416_names.specs.SeenKinds.{seen_kind}
use Rattle.v1_ready_places.specs.internal.Chains.{seen_left}
use Rattle.v1_ready_places.proofs.chain.left_kinds.Given as goal

abbrev pub invariant-loop-row : goal.invariant-loop-row
invariant-loop-row l = record {
  kinds : map seen_kind l.kinds.items ++ map seen_left l.rows ≡ map seen_left l.fn.rows;
}

abbrev pub decreases-loop-row : goal.decreases-loop-row
decreases-loop-row l = length l.rows
