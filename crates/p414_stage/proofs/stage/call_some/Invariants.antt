use Rattle.std.proofs.Common.{◌≡◌, map, drop}
use Rattle.std.specs.List.{list_any}
use Rattle.p414_syntax.specs.References.{referred}
use Rattle.p414_sem.specs.Stages.{is_call_of}
use Rattle.p414_stage.proofs.stage.call_some.Given as goal

abbrev pub invariant-loop-call : goal.invariant-loop-call
invariant-loop-call l =
    list_any (is_call_of (map referred l.primitives)) (drop l.call-index l.calls)
    ≡ list_any (is_call_of (map referred l.primitives)) l.calls
