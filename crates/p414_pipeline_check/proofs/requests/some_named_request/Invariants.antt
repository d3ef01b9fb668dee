use Rattle.std.proofs.Common.{◌≡◌, drop}
use Rattle.std.specs.List.{list_any}
use Rattle.p414_pipeline_check.specs.internal.Requests.{names_request}
use Rattle.p414_pipeline_check.proofs.requests.some_named_request.Given as goal

abbrev pub invariant-loop-name : goal.invariant-loop-name
invariant-loop-name l = list_any (names_request l.names l.sizes) (drop l.name-index l.listed) ≡ list_any (names_request l.names l.sizes) l.listed
