use Rattle.std.proofs.Common.{◌≡◌, map, take}
use Rattle.match_core.specs.declared.signatures.ObjectSig.{ObjectSig}
use Rattle.match_core.specs.Stores.{sized}
use Rattle.match_core.proofs.stores.blank_shapes.Given as goal

abbrev pub invariant-loop-object : goal.invariant-loop-object
invariant-loop-object l = l.shapes.items ≡ map (λ (object : ObjectSig). sized object.shape 0) (take l.object-index l.objects)
