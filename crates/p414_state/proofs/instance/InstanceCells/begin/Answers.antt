use Rattle.std.proofs.Common.{rules}
use Rattle.p414_state.proofs.Elements.{begun_cells, begun_seen}
use Rattle.p414_state.proofs.instance.InstanceCells.begin.Goals as goal

pub invariant_of-self : goal.invariant_of-self
invariant_of-self c = rw c.empty_all.ensures (begun_cells c.self.inside.shape c.self.inside.elements.items c.self.inside.place (search rules) c.self.invariant)

pub returns-then-not-self : goal.returns-then-not-self
returns-then-not-self c = begun_seen c.self.inside.shape c.self.inside.elements.items c.self.inside.place c.args.self.now c.empty_all.new.elements.items c.self.view_is (search rules) c.empty_all.ensures
