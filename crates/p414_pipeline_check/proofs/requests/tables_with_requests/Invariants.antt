use Rattle.std.proofs.Common.{◌≡◌, ◌++◌, drop, map}
use Rattle.p414_syntax.specs.Tables.{tables}
use Rattle.p414_pipeline_check.specs.internal.Requests.{lists_request, tables_with_requests}
use Rattle.p414_pipeline_check.proofs.requests.tables_with_requests.Given as goal

abbrev pub invariant-loop-decl : goal.invariant-loop-decl
invariant-loop-decl l = l.found.items ++ map (lists_request l.names l.sizes) (tables (drop l.decl-index l.names)) ≡ tables_with_requests l.names l.sizes
