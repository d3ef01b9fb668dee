-- The part of the word is the window of the octets.
use Rattle.std.proofs.Common.{◌≡◌, ◌+◌, ◌-◌, ◌*◌, ◌≤◌, take, drop, ℕ, ap, ◌∙◌, arith, drop-drop}
use Rattle.p4x_bits.specs.BitLists.{num, octet_bits}
use Rattle.p4x_bits.proofs.Splices.{window_within}
use Rattle.p4x_bits.proofs.fields.read_in_word.Goals as goal

pub returns : goal.returns
returns c =
    let whole = octet_bits c.args.octets.now in
    let width = c.args.width in
    let first = c.min-first.result in
    let skip = c.args.at - 8 * first in
    let fit : skip + width ≤ 64 = omega (arith, c.min-first.ensures) in
    let place : 8 * first + skip ≡ c.args.at = omega (arith, c.min-first.ensures) in
    c.word_part.ensures
    ∙ ap (λ xs. num (take width (drop skip xs))) c.word_at.ensures
    ∙ ap num (window_within 64 skip width (drop (8 * first) whole) fit)
    ∙ ap (λ xs. num (take width xs)) (drop-drop skip (8 * first) whole)
    ∙ ap (λ (n : ℕ). num (take width (drop n whole))) place
