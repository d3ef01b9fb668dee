use Rattle.state_store.proofs.Stores.{read_in_range}
use Rattle.state_store.proofs.state.Store.read.Goals as goal

pub returns-clause-fits : goal.returns-clause-fits
returns-clause-fits c =
    rw (← c.self.view_is)
    (read_in_range _ c.args.object c.args.index c.read.result c.index.result.now c.self.invariant
    (rw (← c.self.view_is) at c.requires) c.index.ensures c.read.ensures)
