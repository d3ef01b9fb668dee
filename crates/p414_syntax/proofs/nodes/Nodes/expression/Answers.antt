use Rattle.std.proofs.Common.{sym, subst, length, arith}
use Rattle.p414_syntax.specs.Tree.{ExprInOrder}
use Rattle.p414_syntax.proofs.Grow.{expr_in_order, adds_expr}
use Rattle.p414_syntax.proofs.nodes.Nodes.expression.Goals as goal

pub invariant_of-self-2 : goal.invariant_of-self-2
invariant_of-self-2 c =
    rw c.in_ok-push.ensures.items
    (expr_in_order _ _ c.self.invariant c.args.node (subst (λ t. ExprInOrder (length t.exprs) c.args.node) (sym c.self.view_is) c.requires))

pub returns-clause-ok : goal.returns-clause-ok
returns-clause-ok c =
    rw (c.in_ok-push.ensures.items, ← c.self.view_is)
    (adds_expr _ _ c.self.invariant c.args.node c.len-place.result (omega (arith, c.len-place.ensures, c.self.inside.exprs.ok.0)))
