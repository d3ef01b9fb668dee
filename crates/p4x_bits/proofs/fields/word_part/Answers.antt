-- The shifts are a remainder and a quotient.
use Rattle.std.proofs.Common.{◌∙◌}
use Rattle.p4x_bits.proofs.Words.{part_shifted}
use Rattle.p4x_bits.proofs.Splices.{part_is}
use Rattle.p4x_bits.proofs.fields.word_part.Goals as goal

pub returns : goal.returns
returns c = part_shifted c.args.word c.args.skip c.args.count c.requires.fit ∙ part_is 64 c.args.word c.args.skip c.args.count c.requires.fit
