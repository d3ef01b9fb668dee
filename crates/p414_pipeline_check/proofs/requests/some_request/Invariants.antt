use Rattle.std.proofs.Common.{◌≡◌, drop}
use Rattle.std.specs.List.{list_any}
use Rattle.p414_pipeline_check.specs.internal.Requests.{is_request, primitives_of}
use Rattle.p414_pipeline_check.proofs.requests.some_request.Given as goal

abbrev pub invariant-loop-call : goal.invariant-loop-call
invariant-loop-call l = list_any (is_request l.names (primitives_of l.kind)) (drop l.call-index l.calls) ≡ list_any (is_request l.names (primitives_of l.kind)) l.calls
