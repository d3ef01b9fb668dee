use Rattle.std.proofs.Common.{arith, ◌≡◌, ◌∙◌}
use Rattle.state_store.specs.Cells.{joined, sum_of_cells}
use Rattle.state_store.proofs.Joined.{joined-turn, joined-all}
use Rattle.state_store.proofs.Stores.{sum_is}
use Rattle.state_store.proofs.Sums.{sum_laws}
use Rattle.state_store.proofs.state.Store.add.Goals as goal

pub invariant_of-self : goal.invariant_of-self
invariant_of-self c =
    let whole : c.loop-object.self-inside.cells.items ≡ joined sum_of_cells c.args.self.now.cells c.args.other.now.cells =
    rw (← c.other.view_is) (c.loop-object.invariant.cells ∙ joined-all sum_of_cells c.args.self.now.cells c.other.inside.cells.items c.loop-object.object (rw (← c.self.view_is) (omega arith))) in
    rw (c.loop-object.invariant.shapes, whole)
    (sum_is c.args.self.now c.args.other.now c.requires.counters c.requires.same (rw (← c.self.view_is) c.self.invariant) (rw (← c.other.view_is) c.other.invariant))

pub loop-object-preserved : goal.loop-object-preserved
loop-object-preserved c = record {
  shapes = c.loop-object.invariant.shapes;
  cells = joined-turn sum_of_cells c.args.self.now.cells c.other.inside.cells.items _ c.loop-object.object _ _ _ c.loop-object.invariant.cells
      (rw (← c.self.view_is) (omega arith)) (omega arith)
      c.index_mut.ensures.value c.index.ensures c.add.ensures;
}

pub returns-clause-store : goal.returns-clause-store
returns-clause-store c =
    let whole : c.loop-object.self-inside.cells.items ≡ joined sum_of_cells c.args.self.now.cells c.args.other.now.cells =
    rw (← c.other.view_is) (c.loop-object.invariant.cells ∙ joined-all sum_of_cells c.args.self.now.cells c.other.inside.cells.items c.loop-object.object (rw (← c.self.view_is) (omega arith))) in
    rw (c.loop-object.invariant.shapes, whole)
    (sum_is c.args.self.now c.args.other.now c.requires.counters c.requires.same (rw (← c.self.view_is) c.self.invariant) (rw (← c.other.view_is) c.other.invariant))

pub returns-clause-laws : goal.returns-clause-laws
returns-clause-laws c =
    sum_laws c.args.self.now c.args.other.now c.requires.counters c.requires.same (rw (← c.self.view_is) c.self.invariant) (rw (← c.other.view_is) c.other.invariant)
