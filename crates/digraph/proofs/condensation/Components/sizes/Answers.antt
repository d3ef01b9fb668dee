use Rattle.std.proofs.Common.{◌≡◌, ◌∙◌, ℕ, ◌<◌, ◌≤◌, List, get_or, set, length, sym, ap, subst, arith, length-set, false, Option, None, Some}
use Rattle.std.specs.Prelude.{is_some, MatchOption}
use Rattle.digraph.specs.Graphs.{Among}
use Rattle.digraph.specs.Components.{Condensation, AreComponents}
use Rattle.digraph.proofs.Members.{among_place}
use Rattle.digraph.proofs.Sizing.{IsSized, sized_more, are_sizes}
use Rattle.digraph.proofs.condensation.Components.sizes.Goals as goal

-- the node that is read is a node of the graph
node_within : (g : List (List ℕ)) (c : Condensation) (xs : List ℕ) (k : ℕ) → AreComponents g c → xs ≡ c.order → k < length xs → get_or xs k 0 < length g
node_within g c xs k h e lt = (h.nodes (get_or xs k 0)).0 (subst (λ ys. Among (get_or xs k 0) ys) e (among_place xs k 0 lt))

-- nothing was found
none_found : (found : Option ℕ) (P : Type 0) (Q : ℕ → Type 0) → false ≡ is_some found → MatchOption found P Q → P
none_found None P Q e h = h
none_found (Some x) P Q e h = cc

pub successors-requires : goal.successors-requires
successors-requires c = node_within c.args.graph.now c.args.self.now c.order-node-items.result.now c.loop-node.node-index c.requires.components c.order-node-items.ensures c.loop-node-test.true

pub known_size-requires : goal.known_size-requires
known_size-requires c =
    let lt = node_within c.args.graph.now c.args.self.now c.order-node-items.result.now c.loop-node.node-index c.requires.components c.order-node-items.ensures c.loop-node-test.true in
    omega (arith, lt, c.requires.own)

pub index_mut-requires : goal.index_mut-requires
index_mut-requires c =
    let lt = node_within c.args.graph.now c.args.self.now c.order-node-items.result.now c.loop-node.node-index c.requires.components c.order-node-items.ensures c.loop-node-test.true in
    omega (arith, lt, c.loop-node.invariant.each, c.loop-node.sizes.ok.0)

pub total-requires : goal.total-requires
total-requires c b i =
    let lt = c.requires.closed.within (get_or c.order-node-items.result.now c.loop-node.node-index 0) b (subst (λ xs. Among b xs) c.successors.ensures i) in
    let n = ap length c.deref.ensures.value in
    omega (arith, lt, n, c.loop-node.invariant.each)

pub loop-node-preserved : goal.loop-node-preserved
loop-node-preserved c = record {
  each = length-set c.loop-node.sizes.items _ c.total.result ∙ c.loop-node.invariant.each;
  sized = λ b i.
      subst (λ xs. IsSized c.args.graph.now c.args.own.now c.args.limit (set c.loop-node.sizes.items (get_or xs c.loop-node.node-index 0) c.total.result) b) (sym c.order-node-items.ensures)
      (sized_more c.args.graph.now c.args.self.now c.args.own.now c.args.limit c.loop-node.sizes.items c.loop-node.node-index c.total.result
      c.requires.closed c.requires.components (none_found c.least_on_cycle.result _ _ c.if-is_some.ensures c.least_on_cycle.ensures) (subst (λ xs. c.loop-node.node-index < length xs) c.order-node-items.ensures c.loop-node-test.true) c.loop-node.invariant.each c.loop-node.invariant.sized
      (rw (c.known_size.ensures, c.successors.ensures, c.deref.ensures.value, c.order-node-items.ensures) at c.total.ensures)
      b i);
}

pub returns : goal.returns
returns c =
    are_sizes c.args.graph.now c.args.self.now c.args.own.now c.args.limit c.loop-node.sizes.items c.loop-node.node-index c.requires.components (none_found c.least_on_cycle.result _ _ c.if-is_some.ensures c.least_on_cycle.ensures)
    (subst (λ xs. length xs ≤ c.loop-node.node-index) c.order-node-items.ensures c.loop-node-test.false) c.loop-node.invariant.each c.loop-node.invariant.sized
