use Rattle.std.proofs.Common.{length, ap, arith}
use Rattle.p416_syntax.proofs.NodeTrees.{stmts_count}
use Rattle.p416_syntax.proofs.nodes.Nodes.statements_len.Goals as goal

pub returns : goal.returns
returns c =
    omega (arith, c.len.ensures, stmts_count c.self.inside.exps.items c.self.inside.stmts.items, ap (λ t. length t.stmts) c.self.view_is, c.self.inside.stmts.ok.0)
