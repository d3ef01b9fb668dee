use Rattle.std.proofs.Common.{◌≡◌, ◌++◌, drop, map}
use Rattle.p414_syntax.specs.References.{referred}
use Rattle.p414_syntax.specs.Distinct.{distinct, distinct_behind}
use Rattle.p414_preserved_check.proofs.named.distinct.Given as goal

abbrev pub invariant-loop-name : goal.invariant-loop-name
invariant-loop-name l = record {
  same : map referred l.found.items ≡ l.known;
  whole : l.known ++ distinct_behind l.known (map referred (drop l.name-index l.listed)) ≡ distinct (map referred l.listed);
}
