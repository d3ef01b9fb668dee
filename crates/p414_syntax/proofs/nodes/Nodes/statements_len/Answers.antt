use Rattle.std.proofs.Common.{length, ap, arith}
use Rattle.p414_syntax.proofs.Grow.{stmts_count}
use Rattle.p414_syntax.proofs.nodes.Nodes.statements_len.Goals as goal

pub returns : goal.returns
returns c =
    omega (arith, c.len.ensures, stmts_count c.self.inside.exprs.items c.self.inside.stmts.items, ap (λ t. length t.stmts) c.self.view_is, c.self.inside.stmts.ok.0)
