use Rattle.std.proofs.Common.{◌≡◌, ◌++◌, map, drop}
use Rattle.p416_signature.specs.internal.Seen.{plane_of, seen_object}
use Rattle.p416_signature.proofs.objects.planes.Given as goal

abbrev pub invariant-loop-object : goal.invariant-loop-object
invariant-loop-object l =
    map (λ name. name.now) l.names.items ++ map plane_of (map seen_object (drop l.object-index l.objects)) ≡ map plane_of (map seen_object l.objects)
