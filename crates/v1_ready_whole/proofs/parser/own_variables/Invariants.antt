use Rattle.std.proofs.Common.{◌≡◌, ◌++◌, map, drop}
use Rattle.v1_ready_locals.specs.Owned.{seen_own}
use Rattle.v1_ready_whole.specs.internal.Counted.{counted}
use Rattle.v1_ready_whole.proofs.parser.own_variables.Given as goal

abbrev pub invariant-loop-var : goal.invariant-loop-var
invariant-loop-var l = map seen_own l.found.items ++ counted l.number (drop l.var-index l.vars) ≡ counted l.fn.first l.vars
