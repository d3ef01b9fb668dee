use Rattle.std.proofs.Common.{◌≡◌, ◌++◌, map, drop}
use Rattle.p414_syntax.specs.Arguments.{invocations_of, actions}
use Rattle.p414_calls.proofs.calls.calls_of.Given as goal

abbrev pub invariant-loop-decl : goal.invariant-loop-decl
invariant-loop-decl l = l.found.items ++ map invocations_of (actions (drop l.decl-index l.decls)) ≡ map invocations_of (actions l.decls)
