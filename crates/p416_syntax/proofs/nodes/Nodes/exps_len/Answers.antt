use Rattle.std.proofs.Common.{length, ap, arith}
use Rattle.p416_syntax.proofs.NodeTrees.{exps_count}
use Rattle.p416_syntax.proofs.nodes.Nodes.exps_len.Goals as goal

pub returns : goal.returns
returns c =
    omega (arith, c.len.ensures, exps_count c.self.inside.exps.items c.self.inside.stmts.items, ap (λ t. length t.exps) c.self.view_is, c.self.inside.exps.ok.0)
