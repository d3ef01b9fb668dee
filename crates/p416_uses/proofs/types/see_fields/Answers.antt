use Rattle.p416_syntax.specs.Declarations.{struct_field_uses}
use Rattle.p416_scopes.specs.Seen.{seen_scope}
use Rattle.p416_uses.proofs.Loops.{flat_on}
use Rattle.p416_uses.proofs.types.see_fields.Goals as goal

pub loop-field-preserved : goal.loop-field-preserved
loop-field-preserved c = flat_on (struct_field_uses (seen_scope c.args.scope.now)) c.args.fields.now c.loop-field.field-index c.field-item.result _ _ _ c.loop-field-test.true c.field-item.is c.in_ok-see_field.ensures c.loop-field.invariant
