use Rattle.std.proofs.Common.{◌<◌, length, ap, sym, subst, arith}
use Rattle.v1_core.proofs.Keeping.{read_tree, read_fits}
use Rattle.v1_core.proofs.expressions.Expressions.node.Goals as goal

pub index-requires : goal.index-requires
index-requires c = omega (arith, c.requires, ap (λ k. length k.nodes) c.self.view_is, c.self.inside.nodes.ok.0)

pub returns-clause-tree : goal.returns-clause-tree
returns-clause-tree c =
    rw (← c.self.view_is)
    (read_tree _ _ c.args.place c.index.result.now c.self.invariant (subst (λ k. c.args.place < length k.nodes) (sym c.self.view_is) c.requires) c.index.ensures)

pub returns-clause-fits : goal.returns-clause-fits
returns-clause-fits c =
    rw (← c.self.view_is)
    (read_fits _ _ c.args.place c.index.result.now c.self.invariant (subst (λ k. c.args.place < length k.nodes) (sym c.self.view_is) c.requires) c.index.ensures)
