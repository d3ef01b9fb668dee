use Rattle.std.proofs.Common.{arith, refl, ◌≡◌, map}
use Rattle.state_store.specs.Cells.{blank}
use Rattle.state_store.proofs.Clearing.{cleared_all, cleared_turn}
use Rattle.state_store.proofs.Sums.{zero_is}
use Rattle.state_store.proofs.state.Store.clear.Goals as goal

pub invariant_of-self : goal.invariant_of-self
invariant_of-self c =
    let whole : c.loop-object.self-inside.cells.items ≡ map blank c.args.self.now.shapes =
    cleared_all c.args.self.now c.loop-object.self-inside.cells.items c.loop-object.object (rw (← c.self.view_is) c.self.invariant) (rw (← c.self.view_is) (omega arith)) c.loop-object.invariant.cells in
    rw (c.loop-object.invariant.shapes, whole) (zero_is c.args.self.now.shapes)

pub loop-object-preserved : goal.loop-object-preserved
loop-object-preserved c = record {
  shapes = c.loop-object.invariant.shapes;
  cells = cleared_turn c.args.self.now.cells c.loop-object.self-inside.cells.items c.loop-object.object _ _
      (rw (← c.self.view_is) (omega arith)) c.loop-object.invariant.cells
      c.index_mut.ensures.value c.clear.ensures;
}

pub returns-clause-clear : goal.returns-clause-clear
returns-clause-clear c =
    let whole : c.loop-object.self-inside.cells.items ≡ map blank c.args.self.now.shapes =
    cleared_all c.args.self.now c.loop-object.self-inside.cells.items c.loop-object.object (rw (← c.self.view_is) c.self.invariant) (rw (← c.self.view_is) (omega arith)) c.loop-object.invariant.cells in
    rw (c.loop-object.invariant.shapes, whole) refl

pub returns-clause-store : goal.returns-clause-store
returns-clause-store c =
    let whole : c.loop-object.self-inside.cells.items ≡ map blank c.args.self.now.shapes =
    cleared_all c.args.self.now c.loop-object.self-inside.cells.items c.loop-object.object (rw (← c.self.view_is) c.self.invariant) (rw (← c.self.view_is) (omega arith)) c.loop-object.invariant.cells in
    rw (c.loop-object.invariant.shapes, whole) (zero_is c.args.self.now.shapes)
