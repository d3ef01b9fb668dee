use Rattle.std.proofs.Common.{◌≡◌, ◌+◌, drop}
use Rattle.std.specs.Option.{option_map}
use Rattle.token_division.specs.Pieces.{close_size}
use Rattle.token_division.proofs.pieces.close_size.Given as goal

abbrev pub invariant-loop-at : goal.invariant-loop-at
invariant-loop-at l = option_map (λ size. l.at + size) (close_size (drop l.at l.text)) ≡ close_size l.text
