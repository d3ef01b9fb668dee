use Rattle.std.proofs.Common.{◌≡◌, map, drop}
use Rattle.v1_core.specs.Signatures.{in_order}
use Rattle.p416_signature.specs.internal.Gathered.{put_all}
use Rattle.p416_signature.proofs.order.in_order.Given as goal

abbrev pub invariant-loop-name : goal.invariant-loop-name
invariant-loop-name l =
    put_all (map (λ name. name.now) l.set.keys) (map (λ name. name.now) (drop l.name-index l.names)) ≡ in_order (map (λ name. name.now) l.names)
