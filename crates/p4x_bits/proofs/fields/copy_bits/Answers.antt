-- Whole octets are copied over as many others.
use Rattle.std.proofs.Common.{◌+◌, ◌-◌, ◌/◌, arith}
use Rattle.p4x_bits.proofs.Words.{octets_copied}
use Rattle.p4x_bits.proofs.fields.copy_bits.Goals as goal

pub returns-then-len-eq0 : goal.returns-then-len-eq0
returns-then-len-eq0 c =
    octets_copied c.args.octets.now c.args.source.now c.copy_from_slice.new.self c.args.at c.args.len (c.args.at / 8 + c.args.len / 8 - c.args.at / 8) c.if-at-eq0.true c.if-len-eq0.true (omega arith) (omega arith) (omega arith) c.copy_from_slice.ensures.after
