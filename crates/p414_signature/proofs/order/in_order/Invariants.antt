use Rattle.std.proofs.Common.{◌≡◌, map, drop}
use Rattle.p414_syntax.specs.References.{referred}
use Rattle.p414_sem.specs.Operations.{in_order}
use Rattle.p414_signature.specs.internal.Gathered.{put_all}
use Rattle.p414_signature.proofs.order.in_order.Given as goal

abbrev pub invariant-loop-name : goal.invariant-loop-name
invariant-loop-name l = put_all (map referred l.set.keys) (drop l.name-index l.names) ≡ in_order l.names
