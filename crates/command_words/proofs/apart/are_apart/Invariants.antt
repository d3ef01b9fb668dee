use Rattle.std.proofs.Common.{◌≡◌, map, length}
use Rattle.command_words.specs.Apart as apart
use Rattle.command_words.proofs.apart.are_apart.Given as goal

abbrev pub invariant-loop-rest : goal.invariant-loop-rest
invariant-loop-rest l = apart.are_apart (map (λ name. name.now) l.inputs) (map (λ name. name.now) l.rest) ≡ apart.are_apart (map (λ name. name.now) l.inputs) (map (λ name. name.now) l.outputs)

abbrev pub decreases-loop-rest : goal.decreases-loop-rest
decreases-loop-rest l = length l.rest
