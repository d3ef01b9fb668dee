use Rattle.std.proofs.Common.{◌≡◌, drop}
use Rattle.token_division.specs.Pieces.{mark_at}
use Rattle.token_division.proofs.pieces.mark_at.Given as goal

abbrev pub invariant-loop-mark : goal.invariant-loop-mark
invariant-loop-mark g l = mark_at g.M.Mark.text_of (drop l.mark-index l.marks) l.text ≡ mark_at g.M.Mark.text_of l.marks l.text
