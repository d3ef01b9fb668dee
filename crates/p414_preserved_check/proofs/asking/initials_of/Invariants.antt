use Rattle.std.proofs.Common.{◌≡◌, ◌++◌, drop, map}
use Rattle.p414_syntax.specs.Names.{initial_name}
use Rattle.p414_syntax.specs.Distinct.{distinct, distinct_behind}
use Rattle.p414_preserved_check.proofs.asking.initials_of.Given as goal

abbrev pub invariant-loop-initial : goal.invariant-loop-initial
invariant-loop-initial l = l.set ++ distinct_behind l.set (map initial_name (drop l.initial-index l.initials)) ≡ distinct (map initial_name l.initials)
