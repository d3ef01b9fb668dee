use Rattle.std.proofs.Common.{◌<◌, length, ap, sym, subst, arith}
use Rattle.p414_syntax.proofs.Grow.{node_tree, exprs_count}
use Rattle.p414_syntax.proofs.nodes.Nodes.expr_node.Goals as goal

pub index-requires : goal.index-requires
index-requires c =
    omega (arith, c.requires, exprs_count c.self.inside.exprs.items c.self.inside.stmts.items, ap (λ t. length t.exprs) c.self.view_is, c.self.inside.exprs.ok.0)

pub returns-clause-tree : goal.returns-clause-tree
returns-clause-tree c =
    let p = node_tree _ _ c.args.place c.index.result.now c.self.invariant (subst (λ t. c.args.place < length t.exprs) (sym c.self.view_is) c.requires) c.index.ensures in
    rw (← c.self.view_is) p.0

pub returns-clause-order : goal.returns-clause-order
returns-clause-order c =
    let p = node_tree _ _ c.args.place c.index.result.now c.self.invariant (subst (λ t. c.args.place < length t.exprs) (sym c.self.view_is) c.requires) c.index.ensures in
    p.1
