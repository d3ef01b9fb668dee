-- The port that drops (`v1model.p4`, `mark_to_drop`; its number is this project's own).
use Rattle.std.specs.Prelude.{codes}
use Rattle.state_store.specs.Ports.{drop_port}
use Rattle.v1_core.specs.Values.{to_member}
use Rattle.v1_core.specs.Frames.{Moment, Reference, stepped, number_put_at}

-- `mark_to_drop(sm)`
abbrev pub mark_to_drop : Reference → Moment → Moment
mark_to_drop r m = number_put_at (stepped r (to_member (codes "egress_spec"))) drop_port m
