use Rattle.std.proofs.Common.{arith}
use Rattle.v1_pass_slots.specs.Found.{IsMetadataField}
use Rattle.v1_pass_slots.proofs.Listing.{metadata_on, each_on, each_one}
use Rattle.v1_pass_slots.proofs.lists.add_fields.Goals as goal

pub loop-field-preserved : goal.loop-field-preserved
loop-field-preserved c =
    let ds = c.args.types.now.top.now in
    record {
      lists =
          metadata_on ds c.args.fields.now c.loop-field.field-index c.field-item.result c.loop-field.lists.items c.add_field.new.lists.items _ c.loop-field-test.true c.field-item.is
          c.in_ok-add_field.ensures.lists c.loop-field.invariant.lists;
      each =
          each_on (IsMetadataField ds) c.args.fields.now c.loop-field.field-index c.field-item.result c.loop-field-test.true c.field-item.is c.in_ok-add_field.ensures.field
          c.loop-field.invariant.each;
    }

pub returns-clause-fields : goal.returns-clause-fields
returns-clause-fields c =
    each_one (IsMetadataField c.args.types.now.top.now) c.args.fields.now c.loop-field.field-index (omega (arith, c.loop-field-test.false)) c.loop-field.invariant.each
