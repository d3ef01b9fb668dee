use Rattle.std.proofs.Common.{◌∙◌, ℕ, List, [], ap, subst, arith}
use Rattle.std.proofs.lemmas.List.{take_all}
use Rattle.digraph.specs.Graphs.{Among}
use Rattle.least_order.specs.internal.Counts.{occurs, owing}
use Rattle.least_order.proofs.Owing.{owing_more}
use Rattle.least_order.proofs.listing.Listing.new.Goals as goal

pub count_all-requires : goal.count_all-requires
count_all-requires c b i =
    let lt = c.requires c.loop-node.node b (subst (λ xs. Among b xs) c.of.ensures i) in
    omega (arith, lt, c.loop-node.invariant.each)

pub loop-node-preserved : goal.loop-node-preserved
loop-node-preserved c = record {
  each = c.in_ok-count_all.ensures.len ∙ c.loop-node.invariant.each;
  counted = λ b lt.
      let more = c.in_ok-count_all.ensures.counted b (omega (arith, lt, c.loop-node.invariant.each)) in
      let before = c.loop-node.invariant.counted b lt in
      let row = ap (occurs b) c.of.ensures in
      let all = owing_more c.args.edges.now c.loop-node.node b (omega (arith, c.loop-node-test.true, c.len-node-end.ensures)) in
      omega (arith, more, before, row, all);
}

pub returns : goal.returns
returns c = record {
  each = c.loop-node.invariant.each;
  owes = λ b lt. c.loop-node.invariant.counted b lt ∙ ap (λ (g : List (List ℕ)). owing g [] b) (take_all c.loop-node.node c.args.edges.now (omega (arith, c.loop-node-test.false, c.len-node-end.ensures)));
  gates = c.new.ensures.items;
  ready = c.new-2.ensures.empty;
  order = c.new-3.ensures.items;
}
