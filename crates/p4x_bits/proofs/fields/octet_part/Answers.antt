-- The mask is a remainder, and the shift a quotient.
use Rattle.std.proofs.Common.{◌-◌, ◌≤◌, ◌/◌, ◌%◌, ◌^◌, ap, ◌∙◌, arith, ℕ}
use Rattle.p4x_bits.proofs.Masks.{mask_of_16}
use Rattle.p4x_bits.proofs.Splices.{part_is}
use Rattle.p4x_bits.proofs.fields.octet_part.Goals as goal

pub returns : goal.returns
returns c =
    let small : c.args.count ≤ 8 = omega arith in
    mask_of_16 (c.from.result / 2 ^ (8 - c.args.skip - c.args.count)) c.args.count small
    ∙ ap (λ (n : ℕ). n / 2 ^ (8 - c.args.skip - c.args.count) % 2 ^ c.args.count) c.from.ensures
    ∙ part_is 8 c.args.octet c.args.skip c.args.count c.requires
