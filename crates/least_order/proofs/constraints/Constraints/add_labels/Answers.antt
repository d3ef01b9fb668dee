use Rattle.std.proofs.Common.{◌∙◌, ℕ, List, get_or, length, refl, ap, subst, take, arith}
use Rattle.std.proofs.lemmas.List.{take_all}
use Rattle.digraph.proofs.Members.{among_place, among_take}
use Rattle.least_order.specs.internal.Constraints.{AddsLabels, last_of}
use Rattle.least_order.proofs.Building.{labels_none, labels_more, last_more, last_within}
use Rattle.least_order.proofs.constraints.Constraints.add_labels.Goals as goal

pub loop-label-init : goal.loop-label-init
loop-label-init c = record { last = refl; added = labels_none c.args.node c.args.self.now.is_found.items c.args.self.now.successors }

pub add-requires : goal.add-requires
add-requires c =
    last_within c.args.node (take c.loop-label.label-index c.args.labels.now) (length c.loop-label.self.successors) c.loop-label.last c.loop-label.invariant.last
    (omega (arith, c.requires.node, c.loop-label.invariant.added.each))
    (λ x i. let lt = c.requires.labels x (among_take c.args.labels.now c.loop-label.label-index x i) in omega (arith, lt, c.loop-label.invariant.added.each))

pub index_mut-requires : goal.index_mut-requires
index_mut-requires c =
    let lt = c.requires.labels (get_or c.args.labels.now c.loop-label.label-index 0) (among_place c.args.labels.now c.loop-label.label-index 0 c.loop-label-test.true) in
    omega (arith, lt, c.requires.found, c.loop-label.invariant.added.found_each, c.loop-label.self.is_found.ok.0)

pub loop-label-preserved : goal.loop-label-preserved
loop-label-preserved c =
    let lt = c.requires.labels (get_or c.args.labels.now c.loop-label.label-index 0) (among_place c.args.labels.now c.loop-label.label-index 0 c.loop-label-test.true) in
    let from =
    last_within c.args.node (take c.loop-label.label-index c.args.labels.now) (length c.loop-label.self.successors) c.loop-label.last c.loop-label.invariant.last
    (omega (arith, c.requires.node, c.loop-label.invariant.added.each))
    (λ x i. let less = c.requires.labels x (among_take c.args.labels.now c.loop-label.label-index x i) in omega (arith, less, c.loop-label.invariant.added.each)) in
    record {
      last = last_more c.args.node c.args.labels.now c.loop-label.label-index c.loop-label-test.true;
      added =
          labels_more c.args.node c.args.labels.now c.loop-label.label-index c.loop-label.last c.args.self.now.is_found.items c.args.self.now.successors c.loop-label.self.is_found.items c.loop-label.self.successors c.add.new.self
          c.loop-label-test.true c.loop-label.invariant.last c.loop-label.invariant.added from (omega (arith, lt, c.requires.found, c.loop-label.invariant.added.found_each)) c.in_ok-add.ensures;
    }

pub returns-clause-last : goal.returns-clause-last
returns-clause-last c =
    c.loop-label.invariant.last ∙ ap (λ (xs : List ℕ). last_of c.args.node xs) (take_all c.loop-label.label-index c.args.labels.now c.loop-label-test.false)

pub returns-clause-added : goal.returns-clause-added
returns-clause-added c =
    subst (λ (xs : List ℕ). AddsLabels c.args.node xs c.args.self.now.is_found.items c.args.self.now.successors c.loop-label.self.is_found.items c.loop-label.self.successors)
    (take_all c.loop-label.label-index c.args.labels.now c.loop-label-test.false) c.loop-label.invariant.added
