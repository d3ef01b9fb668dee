-- The octets of the word stand in place of the eight.
use Rattle.std.proofs.Common.{◌+◌, ◌-◌, ◌∙◌, arith}
use Rattle.p4x_bits.proofs.Words.{word_put}
use Rattle.p4x_bits.proofs.fields.put_word.Goals as goal

pub returns : goal.returns
returns c = word_put c.args.octets.now c.copy_from_slice.new.self c.args.index (c.args.index + 8 - c.args.index) c.args.word (omega arith) (omega arith) (c.copy_from_slice.ensures.after ∙ c.to_be_bytes.ensures)
