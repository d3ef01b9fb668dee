use Rattle.std.proofs.Common.{◌≡◌, ◌∙◌, ℕ, ◌<◌, ◌≤◌, List, get_or, set, length, sym, subst, arith, length-set}
use Rattle.digraph.specs.Components.{Condensation, AreComponents}
use Rattle.digraph.proofs.Members.{among_place}
use Rattle.digraph.specs.Graphs.{Among}
use Rattle.p416_syntax.specs.declared.program.Decl16.{Decl16}
use Rattle.p416_syntax.specs.Unknown.{struct_graph}
use Rattle.p416_type_totals.specs.internal.Sized.{structs_of}
use Rattle.p416_type_totals.proofs.Turning.{graph_length, written_more, all_written}
use Rattle.p416_type_totals.proofs.structs.structs_of.Goals as goal

-- a node of the order is the number of a declaration
node_within : (ds : List Decl16) (c : Condensation) (xs : List ℕ) (k : ℕ) → AreComponents (struct_graph ds) c → xs ≡ c.order → k < length xs → get_or xs k 0 < length ds
node_within ds c xs k are e lt =
    let inside = (are.nodes (get_or xs k 0)).0 (subst (λ ys. Among (get_or xs k 0) ys) e (among_place xs k 0 lt)) in
    let nodes = graph_length ds in
    omega (arith, inside, nodes)

pub index_mut-requires : goal.index_mut-requires
index_mut-requires c =
    let lt = node_within c.args.types.now c.args.components.now c.order-node-items.result.now c.loop-node.node-index c.requires.components c.order-node-items.ensures c.loop-node-test.true in
    omega (arith, lt, c.loop-node.invariant.each, c.loop-node.structs.ok.0)

pub loop-node-preserved : goal.loop-node-preserved
loop-node-preserved c = record {
  each = length-set c.loop-node.structs.items _ c.node_size.result ∙ c.loop-node.invariant.each;
  written = λ b i.
      subst (λ xs. get_or (set c.loop-node.structs.items (get_or xs c.loop-node.node-index 0) c.node_size.result) b 0 ≡ get_or (structs_of c.args.headers.now.measure c.args.types.now) b 0) (sym c.order-node-items.ensures)
      (written_more c.args.headers.now.measure c.args.types.now c.args.components.now c.requires.once c.requires.components c.requires.acyclic c.loop-node.structs.items c.loop-node.node-index c.node_size.result
      (subst (λ xs. c.loop-node.node-index < length xs) c.order-node-items.ensures c.loop-node-test.true) c.loop-node.invariant.each c.loop-node.invariant.written
      (rw (c.deref.ensures.value, c.order-node-items.ensures) at c.node_size.ensures)
      b i);
}

pub returns : goal.returns
returns c =
    all_written c.args.headers.now.measure c.args.types.now c.args.components.now c.requires.once c.requires.components c.requires.acyclic c.loop-node.structs.items c.loop-node.node-index
    (subst (λ xs. length xs ≤ c.loop-node.node-index) c.order-node-items.ensures c.loop-node-test.false) c.loop-node.invariant.each c.loop-node.invariant.written
