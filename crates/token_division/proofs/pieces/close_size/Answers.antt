use Rattle.std.proofs.Common.{◌∙◌, sym, ap, codes, arith}
use Rattle.token_division.specs.Pieces.{begins}
use Rattle.token_division.proofs.Scans.{close_more}
use Rattle.token_division.proofs.pieces.close_size.Goals as goal

pub loop-at-preserved : goal.loop-at-preserved
loop-at-preserved c =
    let open_here = ap (λ rest. begins rest (codes "*/")) (sym c.split_at.ensures.back) ∙ sym c.starts_with.ensures.value ∙ c.if-starts_with.false in
    sym (close_more c.args.text.now c.loop-at.at (omega arith) open_here) ∙ c.loop-at.invariant
