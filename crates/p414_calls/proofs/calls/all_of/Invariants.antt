use Rattle.std.proofs.Common.{◌≡◌, ◌++◌, map, drop}
use Rattle.p414_syntax.specs.Arguments.{invocation_of}
use Rattle.p414_calls.proofs.calls.all_of.Given as goal

abbrev pub invariant-loop-call : goal.invariant-loop-call
invariant-loop-call l = l.found.items ++ map (invocation_of l.parameters) (drop l.call-index l.calls) ≡ map (invocation_of l.parameters) l.calls
