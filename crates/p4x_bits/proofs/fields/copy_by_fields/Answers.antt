-- Each turn copies one field behind those that were copied.
use Rattle.std.proofs.Common.{ℕ, ◌+◌, ◌<◌, ◌≤◌, ◌^◌, length, take, drop, ap, sym, subst, ◌∙◌, arith}
use Rattle.p4x_bits.specs.BitLists.{octet_bits}
use Rattle.p4x_bits.proofs.BitLists.{num_of_take_below, length-octet_bits}
use Rattle.p4x_bits.proofs.Splices.{spliced, copies_on}
use Rattle.p4x_bits.proofs.fields.copy_by_fields.Goals as goal

pub write_octet_field-requires-clause-value : goal.write_octet_field-requires-clause-value
write_octet_field-requires-clause-value c =
    let P : ℕ → Type 0 = λ n. n < 2 ^ c.min-width.result in
    subst P (sym c.read_octet_field-field.ensures) (num_of_take_below c.min-width.result (drop c.loop-done.done (octet_bits c.args.source.now)))

pub loop-done-preserved : goal.loop-done-preserved
loop-done-preserved c =
    let source = octet_bits c.args.source.now in
    let old = octet_bits c.args.octets.now in
    let at = c.args.at in
    let done = c.loop-done.done in
    let width = c.min-width.result in
    let room : done + width ≤ length source = omega (arith, length-octet_bits c.args.source.now, c.min-width.ensures) in
    let begins : at ≤ length old = omega (arith, length-octet_bits c.args.octets.now) in
    record {
      within = omega (arith, c.min-width.ensures);
      copied =
          copies_on source old (octet_bits c.loop-done.octets) (octet_bits c.write_octet_field.new.octets) at done width c.read_octet_field-field.result room begins c.read_octet_field-field.ensures c.write_octet_field.ensures.bits c.loop-done.invariant.copied
          ∙ ap (λ (k : ℕ). spliced at (at + (done + k)) (take (done + k) source) old) (sym c.from-done.ensures);
    }
