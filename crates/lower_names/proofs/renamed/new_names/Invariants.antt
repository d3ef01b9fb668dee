use Rattle.std.proofs.Common.{◌≡◌, ◌++◌, flat_map, drop}
use Rattle.lower_names.specs.RenamedSorts.{renamed_of, renamed_sorts}
use Rattle.lower_names.proofs.renamed.new_names.Given as goal

abbrev pub invariant-loop-sort : goal.invariant-loop-sort
invariant-loop-sort l = l.found ++ flat_map (renamed_of l.names) (drop l.sort-index renamed_sorts) ≡ flat_map (renamed_of l.names) renamed_sorts
