use Rattle.std.proofs.Common.{◌<◌, length, ap, sym, subst, arith}
use Rattle.p416_syntax.proofs.NodeTrees.{stmt_node_tree, stmts_count}
use Rattle.p416_syntax.proofs.nodes.Nodes.statement_node.Goals as goal

pub index-requires : goal.index-requires
index-requires c =
    omega (arith, c.requires, stmts_count c.self.inside.exps.items c.self.inside.stmts.items, ap (λ t. length t.stmts) c.self.view_is, c.self.inside.stmts.ok.0)

pub returns-clause-tree : goal.returns-clause-tree
returns-clause-tree c =
    let p = stmt_node_tree _ _ c.args.place c.index.result.now c.self.invariant (subst (λ t. c.args.place < length t.stmts) (sym c.self.view_is) c.requires) c.index.ensures in
    rw (← c.self.view_is) p.0

pub returns-clause-order : goal.returns-clause-order
returns-clause-order c =
    let p = stmt_node_tree _ _ c.args.place c.index.result.now c.self.invariant (subst (λ t. c.args.place < length t.stmts) (sym c.self.view_is) c.requires) c.index.ensures in
    rw (← c.self.view_is) p.1
