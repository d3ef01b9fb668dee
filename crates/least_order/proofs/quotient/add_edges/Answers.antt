use Rattle.std.proofs.Common.{ℕ, ◌+◌, ◌∙◌, List, get_or, take, subst}
use Rattle.std.proofs.lemmas.List.{take_all}
use Rattle.digraph.proofs.Members.{among_place}
use Rattle.least_order.specs.internal.Additions.{AddsEdges}
use Rattle.least_order.specs.internal.Quotients.{LeavesTo, IsBetween}
use Rattle.least_order.proofs.Adding.{adds_on, leaves_more}
use Rattle.least_order.proofs.quotient.add_edges.Goals as goal

pub number-requires : goal.number-requires
number-requires c = c.requires.targets (get_or c.args.targets.now c.loop-target.target-index 0) (among_place c.args.targets.now c.loop-target.target-index 0 c.loop-target-test.true)

pub loop-target-preserved : goal.loop-target-preserved
loop-target-preserved c = record {
  each = c.in_ok-add_between.ensures.len ∙ c.loop-target.invariant.each;
  edges =
      adds_on c.args.edges.now c.loop-target.edges c.add_between.new.edges
      (LeavesTo c.args.components.now.numbers c.args.from (take c.loop-target.target-index c.args.targets.now)) (IsBetween c.args.from c.number.result) (LeavesTo c.args.components.now.numbers c.args.from (take (c.loop-target.target-index + 1) c.args.targets.now))
      c.loop-target.invariant.edges c.in_ok-add_between.ensures.edges
      (leaves_more c.args.components.now.numbers c.args.from c.args.targets.now c.loop-target.target-index c.number.result c.loop-target-test.true c.number.ensures);
}

pub returns-clause-edges : goal.returns-clause-edges
returns-clause-edges c =
    subst (λ (xs : List ℕ). AddsEdges c.args.edges.now c.loop-target.edges (LeavesTo c.args.components.now.numbers c.args.from xs)) (take_all c.loop-target.target-index c.args.targets.now c.loop-target-test.false) c.loop-target.invariant.edges
