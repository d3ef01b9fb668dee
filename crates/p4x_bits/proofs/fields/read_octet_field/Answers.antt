-- A wide number is read as two, one behind the other.
use Rattle.std.proofs.Common.{◌∙◌, arith}
use Rattle.p4x_bits.specs.BitLists.{octet_bits}
use Rattle.p4x_bits.proofs.BitLists.{length-octet_bits}
use Rattle.p4x_bits.proofs.Words.{wide_read}
use Rattle.p4x_bits.proofs.fields.read_octet_field.Goals as goal

pub returns-in-Some : goal.returns-in-Some
returns-in-Some c =
    let octets = c.args.octets.now in
    wide_read (octet_bits octets) c.args.at c.args.width c.in-Some.behind c.from-high.result c.from-in-Some.result c.in-Some.ensures.0 c.requires.width c.in-Some.ensures.3 (omega (arith, length-octet_bits octets)) (c.from-high.ensures ∙ c.read_in_word-in-Some.ensures) (c.from-in-Some.ensures ∙ c.read_in_word-in-Some-2.ensures)
