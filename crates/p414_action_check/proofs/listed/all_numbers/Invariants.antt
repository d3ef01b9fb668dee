use Rattle.std.proofs.Common.{◌≡◌, ◌++◌, drop, map, flat_map}
use Rattle.p414_syntax.specs.Arguments.{action_number}
use Rattle.p414_syntax.specs.Actions.{all_listed}
use Rattle.p414_syntax.specs.Tables.{tables}
use Rattle.p414_action_check.specs.internal.Counted.{listed_numbers}
use Rattle.p414_action_check.proofs.listed.all_numbers.Given as goal

abbrev pub invariant-loop-decl : goal.invariant-loop-decl
invariant-loop-decl l = l.found.items ++ flat_map (listed_numbers l.names) (tables (drop l.decl-index l.names)) ≡ map (action_number l.names) (all_listed l.names)
