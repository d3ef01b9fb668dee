use Rattle.std.proofs.Common.{◌≡◌, ◌++◌, map, drop}
use Rattle.p414_syntax.specs.References.{referred}
use Rattle.p414_sem.specs.Signatures.{action_sig}
use Rattle.p414_signature.proofs.tables.action_sigs.Given as goal

abbrev pub invariant-loop-name : goal.invariant-loop-name
invariant-loop-name l = l.actions ++ map (action_sig l.names) (map referred (drop l.name-index l.ordered)) ≡ map (action_sig l.names) (map referred l.ordered)
