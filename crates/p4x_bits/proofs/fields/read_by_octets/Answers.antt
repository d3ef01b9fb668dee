-- Each turn puts the bits of one octet behind those that were read.
use Rattle.std.proofs.Common.{◌≡◌, ℕ, ◌+◌, ◌-◌, ◌*◌, ◌<◌, ◌≤◌, ◌^◌, take, drop, get_or, ap, sym, subst, ◌∙◌, arith}
use Rattle.p4x_bits.specs.BitLists.{num, bits, octet_bits}
use Rattle.p4x_bits.proofs.BitLists.{num_of_take_below}
use Rattle.p4x_bits.proofs.Masks.{pushed_is}
use Rattle.p4x_bits.proofs.Splices.{reads_on}
use Rattle.p4x_bits.proofs.fields.read_by_octets.Goals as goal

pub loop-left-init : goal.loop-left-init
unfolding num
loop-left-init c = record {
  rest = omega arith;
  within = omega arith;
  place = λ _. omega arith;
  number = let e : c.args.width - c.args.width ≡ 0 = omega arith in ap (λ (k : ℕ). num (take k (drop c.args.at (octet_bits c.args.octets.now)))) (sym e);
}

pub loop-left-preserved : goal.loop-left-preserved
loop-left-preserved c =
    let octets = c.args.octets.now in
    let at = c.args.at in
    let left = c.loop-left.left in
    let count = c.min-count.result in
    let done = c.args.width - left in
    let index = c.loop-left.index in
    let skip = c.loop-left.skip in
    let number = c.loop-left.number in
    let place : 8 * index + skip + left ≡ at + c.args.width = c.loop-left.invariant.place c.loop-left-test.true in
    let short : count ≤ left = omega (arith, c.min-count.ensures) in
    let fit : skip + count ≤ 8 = omega (arith, c.min-count.ensures) in
    let start : 8 * index + skip ≡ at + done = omega arith in
    let more : done + count ≡ c.args.width - (left - count) = omega arith in
    let part : c.from.result ≡ num (take count (drop skip (bits 8 (get_or octets index 0)))) = c.from.ensures ∙ c.octet_part.ensures in
    let small : c.from.result < 2 ^ count = let P : ℕ → Type 0 = λ n. n < 2 ^ count in subst P (sym part) (num_of_take_below count (drop skip (bits 8 (get_or octets index 0)))) in
    let below : number < 2 ^ done = let P : ℕ → Type 0 = λ n. n < 2 ^ done in subst P (sym c.loop-left.invariant.number) (num_of_take_below done (drop at (octet_bits octets))) in
    record {
      rest = omega arith;
      within = omega arith;
      place = λ h. omega (arith, c.min-count.ensures);
      number =
          pushed_is number done count c.from.result below (omega arith) small
          ∙ reads_on octets at done index skip count c.from.result number start fit (omega arith) (omega arith) part c.loop-left.invariant.number
          ∙ ap (λ (k : ℕ). num (take k (drop at (octet_bits octets)))) more;
    }
