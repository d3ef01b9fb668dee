use Rattle.std.proofs.Common.{◌≡◌, ◌++◌, map, drop}
use Rattle.v1_ready_tables.specs.internal.Listed.{seen_listed, row_plane}
use Rattle.v1_ready_tables.proofs.listed.planes.Given as goal

abbrev pub invariant-loop-row : goal.invariant-loop-row
invariant-loop-row l =
    map (λ name. name.now) l.names.items ++ map row_plane (map seen_listed (drop l.row-index l.rows)) ≡ map row_plane (map seen_listed l.rows)
