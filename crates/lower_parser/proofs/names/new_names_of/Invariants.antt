use Rattle.std.proofs.Common.{◌≡◌, ◌++◌, map, drop}
use Rattle.p414_syntax.specs.References.{referred}
use Rattle.p414_syntax.specs.declared.syntax.Sort.TheVariants as sort
use Rattle.lower_laws_names.specs.NewNames.{new_name}
use Rattle.lower_parser.proofs.names.new_names_of.Given as goal

abbrev pub invariant-loop-name : goal.invariant-loop-name
invariant-loop-name l = l.made ++ map (new_name l.names sort.Parse) (map referred (drop l.name-index l.found)) ≡ map (new_name l.names sort.Parse) (map referred l.found)
