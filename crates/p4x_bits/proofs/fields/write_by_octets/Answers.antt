-- Each turn writes the bits of one octet behind those that were written.
use Rattle.std.proofs.Common.{◌≡◌, ℕ, ◌+◌, ◌-◌, ◌*◌, ◌/◌, ◌≤◌, ◌^◌, [], set, ap, refl, ◌∙◌, arith}
use Rattle.p4x_bits.specs.BitLists.{bits, octet_bits}
use Rattle.p4x_bits.proofs.Splices.{spliced, spliced_none, writes_on}
use Rattle.p4x_bits.proofs.fields.write_by_octets.Goals as goal

pub loop-left-init : goal.loop-left-init
unfolding bits
loop-left-init c = record {
  rest = omega arith;
  within = omega arith;
  place = λ _. omega arith;
  written =
      let old = octet_bits c.args.octets.now in
      let e : 0 ≡ c.args.width - c.args.width = omega arith in
      let z : c.args.at ≡ c.args.at + 0 = omega arith in
      spliced_none c.args.at old
      ∙ ap (λ (k : ℕ). spliced c.args.at k [] old) z
      ∙ ap (λ (k : ℕ). spliced c.args.at (c.args.at + k) (bits k (c.args.value / 2 ^ c.args.width)) old) e;
}

pub loop-left-preserved : goal.loop-left-preserved
loop-left-preserved c =
    let now = c.loop-left.octets in
    let old = c.args.octets.now in
    let at = c.args.at in
    let value = c.args.value in
    let count = c.min-count.result in
    let left = c.loop-left.left - count in
    let done = c.args.width - c.loop-left.left in
    let index = c.loop-left.index in
    let skip = c.loop-left.skip in
    let place : 8 * index + skip + c.loop-left.left ≡ at + c.args.width = c.loop-left.invariant.place c.loop-left-test.true in
    let short : count ≤ c.loop-left.left = omega (arith, c.min-count.ensures) in
    let fit : skip + count ≤ 8 = omega (arith, c.min-count.ensures) in
    let start : 8 * index + skip ≡ at + done = omega arith in
    let more : done + count ≡ c.args.width - left = omega arith in
    let both : c.loop-left.left ≡ left + count = omega arith in
    let is : octet_bits now ≡ spliced at (at + done) (bits done (value / 2 ^ (left + count))) (octet_bits old) =
    c.loop-left.invariant.written ∙ ap (λ (k : ℕ). spliced at (at + done) (bits done (value / 2 ^ k)) (octet_bits old)) both in
    record {
      rest = omega arith;
      within = omega arith;
      place = λ h. omega (arith, c.min-count.ensures);
      written =
          writes_on old now (set now index c.with_octet_part.result) at done index skip count left value c.with_octet_part.result (omega arith) start fit (omega arith) c.with_octet_part.ensures refl is
          ∙ ap (λ (k : ℕ). spliced at (at + k) (bits k (value / 2 ^ left)) (octet_bits old)) more;
    }
