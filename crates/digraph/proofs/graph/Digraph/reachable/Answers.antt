use Rattle.std.proofs.Common.{◌∙◌, ap, sym, subst}
use Rattle.digraph.specs.Graphs.{Among, AreReached}
use Rattle.digraph.specs.internal.Reaching.{Reach, reach_all}
use Rattle.digraph.proofs.Spreading.{next_within, put_within, spread_next, lighter_next, are_reached}
use Rattle.digraph.proofs.graph.Digraph.reachable.Goals as goal

pub successors-requires : goal.successors-requires
successors-requires c =
    next_within c.args.self.now c.args.from c.loop-node.invariant.0 c.in-Some.node c.next_node.new.self c.loop-node.search c.in-Some.ensures c.loop-node.invariant.1

pub put_all-requires : goal.put_all-requires
put_all-requires c b i =
    put_within c.args.self.now c.args.from c.loop-node.invariant.0 c.in-Some.node b c.next_node.new.self c.loop-node.search c.requires.closed c.in-Some.ensures c.loop-node.invariant.1 (subst (λ xs. Among b xs) c.successors.ensures i)

pub loop-node-smaller : goal.loop-node-smaller
loop-node-smaller c =
    lighter_next c.args.self.now c.args.from c.loop-node.invariant.0 c.in-Some.node c.next_node.new.self c.loop-node.search c.put_all.new.self c.requires.closed c.in-Some.ensures c.loop-node.invariant.1
    (c.in_ok-put_all.ensures ∙ ap (λ xs. reach_all c.next_node.new.self xs) c.successors.ensures)

pub loop-node-preserved : goal.loop-node-preserved
loop-node-preserved c = (
  c.in-Some.node,
  spread_next c.args.self.now c.args.from c.loop-node.invariant.0 c.in-Some.node c.next_node.new.self c.loop-node.search c.put_all.new.self c.requires.closed c.in-Some.ensures c.loop-node.invariant.1
      (c.in_ok-put_all.ensures ∙ ap (λ xs. reach_all c.next_node.new.self xs) c.successors.ensures),
)

pub returns : goal.returns
returns c =
    let a = are_reached c.args.self.now c.args.from c.loop-node.invariant.0 c.loop-node.search c.loop-node.invariant.1 c.in_default.ensures.0 in
    subst (λ (r : Reach). AreReached c.args.self.now c.args.from r.reached) (sym (c.search-2.view_is ∙ c.in_default.ensures.1)) a
