use Rattle.digraph.proofs.PartLaws.{length-parts}
use Rattle.digraph.proofs.graph.Digraph.successors.Goals as goal

pub part_bounds-start-requires-clause-place : goal.part_bounds-start-requires-clause-place
part_bounds-start-requires-clause-place c =
    rw c.deref.ensures.value (rw (← length-parts c.self.inside.starts.items c.self.inside.targets.items) (rw (← c.self.view_is) at c.requires))
