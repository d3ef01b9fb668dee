-- A part written into the word is one written into the octets.
use Rattle.std.proofs.Common.{◌≡◌, ◌+◌, ◌-◌, ◌*◌, ◌≤◌, length, ◌∙◌, arith}
use Rattle.p4x_bits.specs.BitLists.{bits, octet_bits}
use Rattle.p4x_bits.proofs.BitLists.{length-octet_bits}
use Rattle.p4x_bits.proofs.Splices.{block_spliced}
use Rattle.p4x_bits.proofs.fields.write_in_word.Goals as goal

pub returns : goal.returns
returns c =
    let whole = octet_bits c.args.octets.now in
    let width = c.args.width in
    let first = c.min-first.result in
    let skip = c.args.at - 8 * first in
    let fit : skip + width ≤ 64 = omega (arith, c.min-first.ensures) in
    let place : 8 * first + skip ≡ c.args.at = omega (arith, c.min-first.ensures) in
    let room : 8 * first + 64 ≤ length whole = omega (arith, c.min-first.ensures, length-octet_bits c.args.octets.now) in
    c.put_word.ensures
    ∙ block_spliced (8 * first) 64 skip width c.args.at (bits 64 c.word_at-word.result) (bits 64 c.with_word_part.result) (bits width c.args.value) whole room fit place c.word_at-word.ensures c.with_word_part.ensures
