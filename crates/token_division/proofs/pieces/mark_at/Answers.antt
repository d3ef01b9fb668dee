use Rattle.std.proofs.Common.{◌≡◌, Some, sym, arith}
use Rattle.std.proofs.lemmas.Grind.{common_steps}
use Rattle.token_division.specs.Pieces.{mark_at}
use Rattle.token_division.proofs.Marks.{mark_longest}
use Rattle.token_division.proofs.pieces.mark_at.Goals as goal

pub returns-then-starts_with-clause-longest : goal.returns-then-starts_with-clause-longest
returns-then-starts_with-clause-longest g c =
    let mark = c.mark-item.result in
    let is : Some mark ≡ mark_at g.M.Mark.text_of c.args.marks.now c.args.text.now = grind (arith, common_steps) in
    λ s. mark_longest g.M.Mark.text_of c.args.text.now mark c.args.marks.now s (sym is)
