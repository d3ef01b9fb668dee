use Rattle.std.proofs.Common.{◌≤◌, length, sym, subst, arith}
use Rattle.v1_ready_blocks.specs.Nodes.{IsNode}
use Rattle.v1_ready_blocks.specs.Kept.{over}
use Rattle.v1_ready_blocks.proofs.Keeping.{one_more, adds, over_more, needed_more}
use Rattle.v1_ready_blocks.proofs.statements.Statements.put.Goals as goal

pub invariant_of-self-2 : goal.invariant_of-self-2
invariant_of-self-2 c =
    rw c.in_ok-push.ensures.items
    (one_more _ _ c.args.node
    (over_more _ c.in_ok-expressions.expressions _
    (subst (λ n. c.self.inside.expressions ≤ n) (sym c.in_ok-expressions.ensures) (needed_more c.args.node c.self.inside.expressions))
    c.self.invariant)
    (subst (λ k. IsNode (over c.in_ok-expressions.expressions k.ground) (length k.nodes) c.args.node) (sym c.self.view_is) (c.fits.ensures c.if-not-fits.false)))

pub returns-clause-ok : goal.returns-clause-ok
returns-clause-ok c =
    rw (c.in_ok-push.ensures.items, ← c.self.view_is)
    (adds c.self.inside.nodes.items c.args.node c.len-place.result (omega (arith, c.len-place.ensures, c.self.inside.nodes.ok.0)))
