use Rattle.std.proofs.Common.{sym, subst, length, arith}
use Rattle.v1_core.specs.Nodes.{IsNode}
use Rattle.v1_core.proofs.Keeping.{one_more, adds}
use Rattle.v1_core.proofs.expressions.Expressions.add.Goals as goal

pub invariant_of-self-2 : goal.invariant_of-self-2
invariant_of-self-2 c =
    rw c.in_ok-push.ensures.items
    (one_more _ _ c.args.node c.self.invariant (subst (λ k. IsNode k.layout (length k.nodes) c.args.node) (sym c.self.view_is) c.requires))

pub returns-clause-ok : goal.returns-clause-ok
returns-clause-ok c =
    rw (c.in_ok-push.ensures.items, ← c.self.view_is)
    (adds c.self.inside.nodes.items c.args.node c.len-place.result (omega (arith, c.len-place.ensures, c.self.inside.nodes.ok.0)))
