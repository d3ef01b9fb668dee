use Rattle.std.proofs.Common.{take}
use Rattle.text_lines.specs.Numbers.{value_of}
use Rattle.text_lines.specs.internal.Numbers.{FitsIn128}
use Rattle.text_lines.proofs.numbers.value_of.Given as goal

abbrev pub invariant-loop-digit : goal.invariant-loop-digit
invariant-loop-digit l = FitsIn128 (value_of l.base (take l.digit-index l.digits)) l.value
