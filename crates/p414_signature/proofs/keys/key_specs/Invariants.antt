use Rattle.std.proofs.Common.{◌≡◌, ◌++◌, map, drop}
use Rattle.p414_sem.specs.Signatures.{key_spec}
use Rattle.p414_signature.proofs.keys.key_specs.Given as goal

abbrev pub invariant-loop-read : goal.invariant-loop-read
invariant-loop-read l = l.specs ++ map (key_spec l.names) (drop l.read-index l.reads) ≡ map (key_spec l.names) l.reads
