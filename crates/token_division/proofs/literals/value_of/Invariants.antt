use Rattle.std.proofs.Common.{take}
use Rattle.token_division.specs.Literals.{FitsIn128, value_of}
use Rattle.token_division.proofs.literals.value_of.Given as goal

abbrev pub invariant-loop-octet : goal.invariant-loop-octet
invariant-loop-octet l = FitsIn128 (value_of l.base (take l.octet-index l.digits)) l.value
