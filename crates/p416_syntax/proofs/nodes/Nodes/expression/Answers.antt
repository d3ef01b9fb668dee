use Rattle.std.proofs.Common.{sym, subst, length, arith}
use Rattle.p416_syntax.specs.Tree.{ExpInOrder}
use Rattle.p416_syntax.proofs.NodeTrees.{exp_in_order, adds_exp}
use Rattle.p416_syntax.proofs.nodes.Nodes.expression.Goals as goal

pub invariant_of-self-2 : goal.invariant_of-self-2
invariant_of-self-2 c =
    rw c.in_ok-push.ensures.items
    (exp_in_order _ _ c.self.invariant c.args.node (subst (λ t. ExpInOrder (length t.exps) c.args.node) (sym c.self.view_is) c.requires))

pub returns-clause-ok : goal.returns-clause-ok
returns-clause-ok c =
    rw (c.in_ok-push.ensures.items, ← c.self.view_is)
    (adds_exp _ _ c.self.invariant c.args.node c.len-place.result (omega (arith, c.len-place.ensures, c.self.inside.exps.ok.0)))
