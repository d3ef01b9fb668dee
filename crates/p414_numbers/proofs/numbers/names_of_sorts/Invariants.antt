use Rattle.std.proofs.Common.{◌≡◌, take, drop, false}
use Rattle.std.specs.List.{list_any}
use Rattle.p414_syntax.specs.Twice.{repeats_in}
use Rattle.p414_numbers.specs.Sorts.{names_for}
use Rattle.p414_numbers.proofs.numbers.names_of_sorts.Given as goal

abbrev pub invariant-loop-sort : goal.invariant-loop-sort
invariant-loop-sort l = record {
  found : l.found.items ≡ names_for l.decls (take l.sort-index l.sorts);
  once : list_any (repeats_in l.decls) (drop l.sort-index l.sorts) ≡ false;
}
