use Rattle.std.proofs.Common.{take, sym, subst, arith}
use Rattle.token_division.specs.Literals.{FitsIn128, value_of}
use Rattle.token_division.proofs.Numbers.{value_more}
use Rattle.token_division.proofs.literals.value_of.Goals as goal

pub loop-octet-preserved : goal.loop-octet-preserved
loop-octet-preserved c =
    let i = c.loop-octet.octet-index in
    let digits = c.args.digits.now in
    subst (λ number. FitsIn128 number c.with_octet-value.result) (sym (value_more c.args.base digits i (omega arith)))
    (c.with_octet-value.ensures (value_of c.args.base (take i digits)) c.loop-octet.invariant)
