use Rattle.std.proofs.Common.{◌≡◌, map, drop}
use Rattle.v1_core.specs.Nodes.{ready_at}
use Rattle.v1_core.specs.Kept.{trees}
use Rattle.v1_ready_selects.specs.Selects.{keys_of}
use Rattle.v1_ready_selects.specs.Seen.{seen_scalars, behind}
use Rattle.v1_ready_selects.proofs.selects.SelectKeys.evaluate.Given as goal

abbrev pub invariant-loop-place : goal.invariant-loop-place
invariant-loop-place l =
    behind (seen_scalars l.self-inside.values.items) (keys_of l.frame l.unparsed (map (ready_at (trees l.expressions)) (drop l.place-index l.places)))
    ≡ keys_of l.frame l.unparsed (map (ready_at (trees l.expressions)) l.places)
