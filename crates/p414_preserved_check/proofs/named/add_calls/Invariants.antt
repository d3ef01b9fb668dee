use Rattle.std.proofs.Common.{◌≡◌, ◌++◌, drop, map}
use Rattle.p414_syntax.specs.References.{referred}
use Rattle.p414_preserved_check.specs.internal.Named.{named_by}
use Rattle.p414_preserved_check.proofs.named.add_calls.Given as goal

abbrev pub invariant-loop-call : goal.invariant-loop-call
invariant-loop-call l = map referred l.found.items ++ named_by l.wanted (drop l.call-index l.calls) ≡ map referred l.fn.found.items ++ named_by l.wanted l.calls
