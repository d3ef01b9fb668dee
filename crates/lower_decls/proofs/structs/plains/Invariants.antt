use Rattle.std.proofs.Common.{◌≡◌, ◌++◌, map, drop}
use Rattle.lower_laws_names.specs.Types.{plain}
use Rattle.lower_decls.proofs.structs.plains.Given as goal

abbrev pub invariant-loop-number : goal.invariant-loop-number
invariant-loop-number l = l.found ++ map plain (drop l.number-index l.numbers) ≡ map plain l.numbers
