use Rattle.std.proofs.Common.{take, sym, subst, arith}
use Rattle.text_lines.specs.Numbers.{value_of}
use Rattle.text_lines.specs.internal.Numbers.{FitsIn128}
use Rattle.text_lines.proofs.DigitLaws.{value_more}
use Rattle.text_lines.proofs.numbers.value_of.Goals as goal

pub loop-digit-preserved : goal.loop-digit-preserved
loop-digit-preserved c =
    let i = c.loop-digit.digit-index in
    let digits = c.args.digits.now in
    subst (λ number. FitsIn128 number c.with_digit-value.result) (sym (value_more c.args.base digits i (omega arith)))
    (c.with_digit-value.ensures (value_of c.args.base (take i digits)) c.loop-digit.invariant)
