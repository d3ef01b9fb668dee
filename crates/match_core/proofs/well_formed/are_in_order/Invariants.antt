use Rattle.match_core.specs.Signatures.{ComesBefore}
use Rattle.match_core.proofs.InPairs.{PairsBelow}
use Rattle.match_core.proofs.well_formed.are_in_order.Given as goal

abbrev pub invariant-loop-i : goal.invariant-loop-i
invariant-loop-i g l = PairsBelow (λ a b. ComesBefore (g.T.Named.named a) (g.T.Named.named b)) l.items l.i
