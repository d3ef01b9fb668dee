use Rattle.std.proofs.Common.{◌≡◌, drop}
use Rattle.p414_calls.specs.internal.Edges.{with_edges, called_by}
use Rattle.p414_calls.proofs.action_edges.add_edges.Given as goal

abbrev pub invariant-loop-call : goal.invariant-loop-call
invariant-loop-call l = with_edges l.graph (called_by l.names (drop l.call-index l.calls)) ≡ with_edges l.fn.graph (called_by l.names l.calls)
