use Rattle.std.proofs.Common.{length, ap, arith}
use Rattle.p414_syntax.proofs.Grow.{exprs_count}
use Rattle.p414_syntax.proofs.nodes.Nodes.exprs_len.Goals as goal

pub returns : goal.returns
returns c =
    omega (arith, c.len.ensures, exprs_count c.self.inside.exprs.items c.self.inside.stmts.items, ap (λ t. length t.exprs) c.self.view_is, c.self.inside.exprs.ok.0)
