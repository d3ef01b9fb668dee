use Rattle.std.proofs.Common.{◌≡◌, ◌++◌, drop, map}
use Rattle.p414_calls.specs.internal.Edges.{called_by}
use Rattle.p414_calls.proofs.action_edges.graph_of.Given as goal

abbrev pub invariant-loop-action : goal.invariant-loop-action
invariant-loop-action l = l.graph ++ map (called_by l.names) (drop l.action-index l.calls) ≡ map (called_by l.names) l.calls
