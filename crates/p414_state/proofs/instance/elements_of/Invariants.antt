use Rattle.std.proofs.Common.{◌≡◌, replicate}
use Rattle.p414_state.proofs.instance.elements_of.Given as goal

abbrev pub invariant-loop-made : goal.invariant-loop-made
invariant-loop-made l = l.elements.items ≡ replicate l.made (record { valid = l.valid; octets = replicate l.octets 0 })
