use Rattle.p416_syntax.specs.Declarations.{top_names, struct_field}
use Rattle.p416_syntax.specs.Totals.{field_bits}
use Rattle.p416_type_totals.specs.internal.Sized.{bit_limit}
use Rattle.p416_type_totals.proofs.Summing.{sum_now}
use Rattle.p416_type_totals.proofs.headers.typed_bits.Goals as goal

pub loop-field-preserved : goal.loop-field-preserved
loop-field-preserved c = sum_now bit_limit field_bits (struct_field (top_names c.args.types.now)) c.args.fields.now c.loop-field.field-index c.field-item.result _ _ _ c.loop-field-test.true c.field-item.is c.loop-field.invariant c.type_bits.ensures c.capped-so_far.ensures
