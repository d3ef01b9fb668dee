use Rattle.std.proofs.Common.{◌≡◌, ◌++◌, map, drop}
use Rattle.p414_syntax.specs.Uses.{of_sort}
use Rattle.p414_uses.specs.Shown.{shown_use}
use Rattle.p414_uses.proofs.collect.lists.add_names.Given as goal

abbrev pub invariant-loop-name : goal.invariant-loop-name
invariant-loop-name l = map shown_use l.found.items ++ map (of_sort l.sort) (drop l.name-index l.names) ≡ map shown_use l.fn.found.items ++ map (of_sort l.sort) l.names
