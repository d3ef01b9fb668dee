use Rattle.std.proofs.Common.{arith, ap, ◌∙◌, ◌∷◌, [], ◌++◌}
use Rattle.v1_pass_slots.specs.Found.{IsBits}
use Rattle.v1_pass_slots.proofs.Listing.{field_on, each_on, each_one}
use Rattle.v1_pass_slots.proofs.lists.add_bits.Goals as goal

pub loop-field-preserved : goal.loop-field-preserved
loop-field-preserved c = record {
  lists =
      field_on c.args.fields.now c.loop-field.field-index c.field-item.result c.loop-field.lists.items c.push.new.self.items _ c.loop-field-test.true c.field-item.is
      (c.in_ok-push.ensures.items ∙ ap (λ l. c.loop-field.lists.items ++ l ∷ []) c.in_ok-of_field.ensures.lists) c.loop-field.invariant.lists;
  bits = each_on IsBits c.args.fields.now c.loop-field.field-index c.field-item.result c.loop-field-test.true c.field-item.is c.in_ok-of_field.ensures.bits c.loop-field.invariant.bits;
}

pub returns-clause-bits : goal.returns-clause-bits
returns-clause-bits c = each_one IsBits c.args.fields.now c.loop-field.field-index (omega (arith, c.loop-field-test.false)) c.loop-field.invariant.bits
