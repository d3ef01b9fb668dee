use Rattle.std.proofs.Common.{◌≡◌, ◌∙◌, ℕ, ◌+◌, ◌-◌, ◌*◌, ◌^◌, ◌<◌, ◌≤◌, sym, ap, suc, Some, arith}
use Rattle.std.proofs.Math.Pow.{pow_mono}
use Rattle.entries_file.specs.Numbers.{parts_value}
use Rattle.entries_file.proofs.Digits.{parts-more, more_bits}
use Rattle.entries_file.proofs.numerals.parts_value.Goals as goal

pub loop-preserved : goal.loop-preserved
loop-preserved c =
    let left : c.args.more - c.loop.counter ≡ suc (c.args.more - (c.loop.counter + 1)) = omega arith in
    let part : c.in_ok-part_of.field-0 ≡ c.from.result = sym c.from.ensures in
    let small : c.in_ok-part_of.field-0 ≤ 255 = c.in_ok-part_of.ensures.small in
    record {
      same = c.loop.invariant.same
          ∙ (ap (λ n. parts_value c.args.base c.args.separator.now n c.loop.value c.loop.rest.now) left
          ∙ parts-more c.args.base c.args.separator.now (c.args.more - (c.loop.counter + 1)) c.loop.value c.loop.rest.now c.in_ok-part.part.now c.in_ok-part.behind.now c.from.result (sym c.in_ok-part.ensures) (sym c.in_ok-part_of.ensures.is ∙ ap Some part));
      few = omega arith;
      small = more_bits c.loop.counter c.loop.value c.from.result c.loop.invariant.small (omega arith);
    }

few_parts : (count more value : ℕ) → count ≤ more → more ≤ 5 → value < 2 ^ (8 * count) → value < 2 ^ 40
few_parts count more value few most small =
    let power : 2 ^ (8 * count) ≤ 2 ^ 40 = pow_mono {i = 8 * count} {j = 40} (omega arith) in
    omega arith

pub overflow_mul-result : goal.overflow_mul-result
overflow_mul-result c =
    let small = few_parts c.loop.counter c.args.more c.loop.value c.loop.invariant.few c.requires.more c.loop.invariant.small in
    omega arith

pub overflow_add-result : goal.overflow_add-result
overflow_add-result c =
    let small = few_parts c.loop.counter c.args.more c.loop.value c.loop.invariant.few c.requires.more c.loop.invariant.small in
    let part : c.in_ok-part_of-2.field-0 ≤ 255 = c.in_ok-part_of-2.ensures.small in
    omega (arith, c.from-2.ensures)
