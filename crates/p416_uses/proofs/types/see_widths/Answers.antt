use Rattle.p416_syntax.specs.Declarations.{field_width}
use Rattle.p416_uses.proofs.Loops.{map_on}
use Rattle.p416_uses.proofs.types.see_widths.Goals as goal

pub loop-field-preserved : goal.loop-field-preserved
loop-field-preserved c = map_on field_width c.args.fields.now c.loop-field.field-index c.field-item.result _ _ _ c.loop-field-test.true c.field-item.is c.see_width.ensures c.loop-field.invariant
