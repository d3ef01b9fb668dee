use Rattle.std.proofs.Common.{map, take}
use Rattle.v1_seats.specs.Seen.{seen_start}
use Rattle.v1_seats.specs.Extents.{AreLaid}
use Rattle.v1_seats.specs.internal.Rows.{form_of_kind}
use Rattle.v1_seats.proofs.laying.lay_members.Given as goal

abbrev pub invariant-loop-kind : goal.invariant-loop-kind
invariant-loop-kind l = AreLaid l.rows.types (map form_of_kind (take l.kind-index l.kinds)) (map seen_start l.starts.items) (seen_start l.all.size) l.all.depth
