use Rattle.std.proofs.Common.{◌≡◌, ◌++◌, map, drop}
use Rattle.p416_names.specs.SeenKinds.{seen_kind}
use Rattle.v1_core.specs.Programs.{first_start}
use Rattle.v1_seats.specs.Seen.{seen_start, seen_seat}
use Rattle.v1_seats.specs.Frame.{seats_from}
use Rattle.v1_seats.proofs.frame.seats_of.Given as goal

abbrev pub invariant-loop-kind : goal.invariant-loop-kind
invariant-loop-kind l = map seen_seat l.seats.items ++ seats_from l.types (map seen_kind (drop l.kind-index l.kinds)) (seen_start l.start) ≡ seats_from l.types (map seen_kind l.kinds) first_start
