use Rattle.std.proofs.Common.{◌≡◌, ◌++◌, drop, map}
use Rattle.p414_syntax.specs.Distinct.{distinct, distinct_behind}
use Rattle.p414_syntax.specs.Arguments.{action_number}
use Rattle.p414_action_check.proofs.listed.add_names.Given as goal

abbrev pub invariant-loop-name : goal.invariant-loop-name
invariant-loop-name l = l.found.items ++ map (action_number l.names) (distinct_behind l.before (drop l.name-index l.listed)) ≡ l.fn.found.items ++ map (action_number l.names) (distinct l.listed)
