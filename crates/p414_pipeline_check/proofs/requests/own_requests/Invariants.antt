use Rattle.std.proofs.Common.{◌≡◌, take}
use Rattle.p414_pipeline_check.specs.internal.Requests.{own_requests, primitives_of}
use Rattle.p414_pipeline_check.proofs.requests.own_requests.Given as goal

abbrev pub invariant-loop-action : goal.invariant-loop-action
invariant-loop-action l = l.found.items ≡ own_requests l.names (primitives_of l.kind) (take l.action-index l.calls)
