use Rattle.std.proofs.Common.{⊎_elim, sym, subst, refl, arith}
use Rattle.std.proofs.lemmas.Bool.{cases_eq}
use Rattle.digraph.specs.Graphs.{Among, IsEdge}
use Rattle.digraph.proofs.Walking.{edge_within}
use Rattle.digraph.proofs.graph.Digraph.is_closed.Goals as goal

pub returns-then-not-all_below : goal.returns-then-not-all_below
returns-then-not-all_below c = (
  λ never. absurd (cc),
  λ closed.
      let far = c.if-not-all_below.ensures in
      let lt = closed.within c.loop-node.node far.0 (subst (λ xs. Among far.0 xs) c.successors.ensures far.1) in
      absurd (omega (arith, lt, far.2, c.len.ensures)),
)

pub loop-node-preserved : goal.loop-node-preserved
loop-node-preserved c a b lt edge =
    ⊎_elim
    (λ same.
    let k = c.if-not-all_below.ensures b (subst (λ xs. Among b xs) (sym c.successors.ensures) (subst (λ n. IsEdge c.args.self.now n b) same edge)) in
    omega (arith, k, c.len.ensures))
    (λ differs. c.loop-node.invariant a b (omega (arith, lt, differs)) edge)
    (cases_eq a c.loop-node.node)

pub returns : goal.returns
returns c = (
  λ _. record {
    within = λ a b edge.
        let lt = edge_within c.args.self.now a b edge in
        c.loop-node.invariant a b (omega (arith, lt, c.loop-node-test.false, c.len-node-end.ensures)) edge;
  },
  λ _. refl,
)
