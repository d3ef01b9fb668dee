use Rattle.std.proofs.Common.{◌≡◌, ◌∙◌, ℕ, ◌<◌, sym, ap, subst, refl, List, length, get_or, arith}
use Rattle.digraph.specs.Graphs.{Among, successors}
use Rattle.digraph.proofs.Cycles.{on_cycle, back_on_cycle}
use Rattle.digraph.proofs.Members.{among_place, place_among}
use Rattle.digraph.proofs.condensation.Components.is_on_cycle.Goals as goal

-- the node that is read is a successor
edge_read : (xs ys : List ℕ) (k : ℕ) → xs ≡ ys → k < length xs → Among (get_or xs k 0) ys
edge_read xs ys k e lt = subst (λ zs. Among (get_or xs k 0) zs) e (among_place xs k 0 lt)

pub number-requires : goal.number-requires
number-requires c =
    let lt = c.requires.closed.within c.args.node (get_or c.successors-next-items.result.now c.loop-next.next-index 0) (edge_read c.successors-next-items.result.now (successors c.args.graph.now c.args.node) c.loop-next.next-index c.successors-next-items.ensures c.loop-next-test.true) in
    omega (arith, lt, c.requires.components.each)

pub returns-then-number : goal.returns-then-number
returns-then-number c =
    let b = get_or c.successors-next-items.result.now c.loop-next.next-index 0 in (
      λ _. on_cycle c.args.graph.now c.args.self.now c.args.node b c.requires.closed c.requires.components
          (edge_read c.successors-next-items.result.now (successors c.args.graph.now c.args.node) c.loop-next.next-index c.successors-next-items.ensures c.loop-next-test.true)
          (sym c.number.ensures ∙ (c.if-number.true ∙ c.number-number.ensures)),
      λ _. refl,
    )

pub returns : goal.returns
returns c = (
  λ never. absurd (cc),
  λ cycle.
      let back = back_on_cycle c.args.graph.now c.args.self.now c.args.node c.requires.closed c.requires.components cycle in
      let place = place_among (successors c.args.graph.now c.args.node) back.0 0 back.1 in
      absurd (c.loop-next.invariant place.0
      (let n = ap length c.successors-next-items.ensures in omega (arith, n, place.1, c.loop-next-test.false))
      (ap (λ b. get_or c.args.self.now.numbers b 0) place.2 ∙ (back.2 ∙ sym c.number-number.ensures))),
)
