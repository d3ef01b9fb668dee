use Rattle.std.proofs.Common.{sym, subst, length, arith}
use Rattle.p414_syntax.specs.Tree.{StmtInOrder}
use Rattle.p414_syntax.proofs.Grow.{stmt_in_order, adds_stmt}
use Rattle.p414_syntax.proofs.nodes.Nodes.statement.Goals as goal

pub invariant_of-self-2 : goal.invariant_of-self-2
invariant_of-self-2 c =
    rw c.in_ok-push.ensures.items
    (stmt_in_order _ _ c.self.invariant c.args.node (subst (λ t. StmtInOrder (length t.exprs) (length t.stmts) c.args.node) (sym c.self.view_is) c.requires))

pub returns-clause-ok : goal.returns-clause-ok
returns-clause-ok c =
    rw (c.in_ok-push.ensures.items, ← c.self.view_is)
    (adds_stmt _ _ c.self.invariant c.args.node c.len-place.result (omega (arith, c.len-place.ensures, c.self.inside.stmts.ok.0)))
