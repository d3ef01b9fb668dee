use Rattle.std.proofs.Common.{◌≡◌, ◌++◌, map, drop}
use Rattle.p416_signature.specs.internal.Seen.{seen_object}
use Rattle.p416_signature.specs.internal.Gathered.{sig_among}
use Rattle.p416_signature.proofs.objects.object_sigs.Given as goal

abbrev pub invariant-loop-name : goal.invariant-loop-name
invariant-loop-name l =
    l.sigs ++ map (sig_among (map seen_object l.objects)) (map (λ name. name.now) (drop l.name-index l.ordered))
    ≡ map (sig_among (map seen_object l.objects)) (map (λ name. name.now) l.ordered)
