-- The word has the bits of the octets it was put together of.
use Rattle.std.proofs.Common.{◌<◌, ℕ, Fits, w8, get_or, arith}
use Rattle.p4x_bits.proofs.Words.{word_is}
use Rattle.p4x_bits.proofs.fields.word_at.Goals as goal

pub returns : goal.returns
returns c =
    let octets = c.args.octets.now in
    let fits : (k : ℕ) → get_or octets k 0 < 256 = λ k. let f : Fits w8 (get_or octets k 0) = c.type_inv.octets k in omega arith in
    word_is octets c.args.index c.from_be_bytes.result (omega arith) fits c.from_be_bytes.ensures
