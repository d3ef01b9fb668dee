use Rattle.std.proofs.Common.{◌≡◌, ◌++◌, map, drop}
use Rattle.p414_syntax.specs.References.{referred}
use Rattle.p414_sem.specs.Signatures.{object_sig}
use Rattle.p414_signature.proofs.objects.object_sigs.Given as goal

abbrev pub invariant-loop-name : goal.invariant-loop-name
invariant-loop-name l = l.objects ++ map (object_sig l.names) (map referred (drop l.name-index l.ordered)) ≡ map (object_sig l.names) (map referred l.ordered)
