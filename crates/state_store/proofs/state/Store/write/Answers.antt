use Rattle.state_store.specs.Cells.{width_of, write_in}
use Rattle.state_store.proofs.Stores.{write_fits, changed_is}
use Rattle.state_store.proofs.state.Store.write.Goals as goal

pub invariant_of-self : goal.invariant_of-self
invariant_of-self c =
    changed_is (λ shape cells. write_in (width_of shape) cells c.args.index c.args.value)
    (λ shape cells fits. write_fits shape cells c.args.index c.args.value fits)
    _ c.args.object c.index.result.now c.index_mut.result.now _ c.self.invariant
    (rw (← c.self.view_is) at c.requires).within c.index.ensures c.index_mut.ensures.value (rw c.width-width.ensures at c.write.ensures)

pub returns-clause-store : goal.returns-clause-store
returns-clause-store c =
    changed_is (λ shape cells. write_in (width_of shape) cells c.args.index c.args.value)
    (λ shape cells fits. write_fits shape cells c.args.index c.args.value fits)
    _ c.args.object c.index.result.now c.index_mut.result.now _ c.self.invariant
    (rw (← c.self.view_is) at c.requires).within c.index.ensures c.index_mut.ensures.value (rw c.width-width.ensures at c.write.ensures)
