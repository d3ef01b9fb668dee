use Rattle.std.proofs.Common.{◌≡◌, ◌++◌, map, filter_map, drop}
use Rattle.p416_syntax.specs.Unknown.{declaration_number}
use Rattle.p416_type_totals.proofs.graph.numbers_of.Given as goal

abbrev pub invariant-loop-name : goal.invariant-loop-name
invariant-loop-name l = l.numbers.items ++ filter_map (declaration_number l.types) (map (λ name. name.now) (drop l.name-index l.names)) ≡ filter_map (declaration_number l.types) (map (λ name. name.now) l.names)
