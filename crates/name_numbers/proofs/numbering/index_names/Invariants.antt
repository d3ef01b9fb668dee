use Rattle.std.proofs.Common.{map, take}
use Rattle.name_numbers.specs.internal.Maps.{IsIndex}
use Rattle.name_numbers.proofs.numbering.index_names.Given as goal

abbrev pub invariant-loop-i : goal.invariant-loop-i
invariant-loop-i l = IsIndex (λ name. name.now) l.numbers (map (λ name. name.now) (take l.i l.names))
