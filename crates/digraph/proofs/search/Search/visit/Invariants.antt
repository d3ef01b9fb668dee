use Rattle.digraph.specs.internal.Search.{IsVisit, work}
use Rattle.digraph.proofs.search.Search.visit.Given as goal

abbrev pub invariant-loop-frame : goal.invariant-loop-frame
invariant-loop-frame l = IsVisit l.graph l.fn.self l.self l.root

abbrev pub decreases-loop-frame : goal.decreases-loop-frame
decreases-loop-frame l = work l.graph l.self
