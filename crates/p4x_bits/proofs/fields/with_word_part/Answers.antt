-- The part is taken out, and the other one put in.
use Rattle.std.proofs.Common.{ap, ◌∙◌, arith}
use Rattle.p4x_bits.specs.BitLists.{bits}
use Rattle.p4x_bits.proofs.Words.{word_rebuilt, part_within, rebuilt_below, rebuilt_is}
use Rattle.p4x_bits.proofs.fields.with_word_part.Goals as goal

pub overflow_sub-result : goal.overflow_sub-result
overflow_sub-result c = part_within c.args.word c.args.skip c.args.count c.requires.fit

pub overflow_add-result : goal.overflow_add-result
overflow_add-result c = rw (word_rebuilt c.args.word c.args.skip c.args.count c.args.number c.requires.fit c.requires.number) (omega (arith, rebuilt_below c.args.word c.args.skip c.args.count c.args.number (omega arith) c.requires.fit c.requires.number))

pub returns : goal.returns
returns c =
    ap (bits 64) (word_rebuilt c.args.word c.args.skip c.args.count c.args.number c.requires.fit c.requires.number)
    ∙ rebuilt_is c.args.word c.args.skip c.args.count c.args.number c.requires.fit c.requires.number
