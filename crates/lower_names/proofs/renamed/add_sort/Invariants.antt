use Rattle.std.proofs.Common.{◌≡◌, ◌++◌, map, filter_map, drop}
use Rattle.p414_syntax.specs.Names.{name_in}
use Rattle.lower_names.specs.RenamedSorts.{renamed}
use Rattle.lower_names.proofs.renamed.add_sort.Given as goal

abbrev pub invariant-loop-decl : goal.invariant-loop-decl
invariant-loop-decl l = l.found ++ map (renamed l.names l.sort) (filter_map (name_in l.sort) (drop l.decl-index l.decl-items)) ≡ l.fn.found ++ map (renamed l.names l.sort) (filter_map (name_in l.sort) l.decl-items)
