use Rattle.std.proofs.Common.{rules, ◌∙◌, ◌+◌, ℕ, List, [], ◌∷◌, ◌++◌, get_or, length, refl, ap, subst, arith}
use Rattle.std.proofs.lemmas.List.{length-set, take_all}
use Rattle.digraph.specs.Graphs.{successors}
use Rattle.digraph.proofs.Members.{among_place}
use Rattle.least_order.specs.internal.Additions.{AddsEdges}
use Rattle.least_order.specs.internal.Constraints.{LeadsOn}
use Rattle.least_order.proofs.Building.{leads_none, leads_added}
use Rattle.least_order.proofs.constraints.add_edges.Goals as goal

pub loop-target-init : goal.loop-target-init
loop-target-init c = record { each = refl; edges = leads_none c.args.last c.args.count c.args.successors.now }

pub overflow_add-count : goal.overflow_add-count
overflow_add-count c =
    let fits = c.requires.fits (get_or c.args.targets.now c.loop-target.target-index 0) (among_place c.args.targets.now c.loop-target.target-index 0 c.loop-target-test.true) in
    search (rules, fits)

pub add-requires : goal.add-requires
add-requires c = omega (arith, c.requires.last, c.loop-target.invariant.each)

pub loop-target-preserved : goal.loop-target-preserved
loop-target-preserved c = record {
  each = ap length c.in_ok-add.ensures ∙ (length-set c.loop-target.successors c.args.last (successors c.loop-target.successors c.args.last ++ (c.args.count + get_or c.args.targets.now c.loop-target.target-index 0) ∷ []) ∙ c.loop-target.invariant.each);
  edges =
      leads_added c.args.last c.args.count c.args.targets.now c.loop-target.target-index c.args.successors.now c.loop-target.successors c.add.new.self
      c.loop-target-test.true (omega (arith, c.requires.last, c.loop-target.invariant.each)) c.loop-target.invariant.edges c.in_ok-add.ensures;
}

pub returns-clause-edges : goal.returns-clause-edges
returns-clause-edges c =
    subst (λ (xs : List ℕ). AddsEdges c.args.successors.now c.loop-target.successors (LeadsOn c.args.last c.args.count xs)) (take_all c.loop-target.target-index c.args.targets.now c.loop-target-test.false) c.loop-target.invariant.edges
