use Rattle.state_store.specs.Cells.{kind_of, count_in}
use Rattle.state_store.proofs.Stores.{count_fits, changed_is}
use Rattle.state_store.proofs.state.Store.count.Goals as goal

pub invariant_of-self : goal.invariant_of-self
invariant_of-self c =
    changed_is (λ shape cells. count_in (kind_of shape) cells c.args.index c.args.octets)
    (λ shape cells fits. count_fits shape cells c.args.index c.args.octets fits)
    _ c.args.object c.index.result.now c.index_mut.result.now _ c.self.invariant
    (rw (← c.self.view_is) at c.requires).within c.index.ensures c.index_mut.ensures.value (rw c.kind-kind.ensures at c.count.ensures)

pub returns-clause-store : goal.returns-clause-store
returns-clause-store c =
    changed_is (λ shape cells. count_in (kind_of shape) cells c.args.index c.args.octets)
    (λ shape cells fits. count_fits shape cells c.args.index c.args.octets fits)
    _ c.args.object c.index.result.now c.index_mut.result.now _ c.self.invariant
    (rw (← c.self.view_is) at c.requires).within c.index.ensures c.index_mut.ensures.value (rw c.kind-kind.ensures at c.count.ensures)
