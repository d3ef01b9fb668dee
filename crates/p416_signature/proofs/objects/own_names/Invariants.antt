use Rattle.std.proofs.Common.{◌≡◌, ◌++◌, map, drop}
use Rattle.p416_signature.specs.internal.Seen.{own_name, seen_object}
use Rattle.p416_signature.proofs.objects.own_names.Given as goal

abbrev pub invariant-loop-object : goal.invariant-loop-object
invariant-loop-object l =
    map (λ name. name.now) l.names.items ++ map own_name (map seen_object (drop l.object-index l.objects)) ≡ map own_name (map seen_object l.objects)
