use Rattle.std.proofs.Common.{◌∙◌, ap}
use Rattle.p416_syntax.specs.Declarations.{top_names, struct_field}
use Rattle.p416_type_totals.specs.Limit.{limit}
use Rattle.p416_type_totals.specs.internal.Sized.{looked}
use Rattle.p416_type_totals.proofs.Summing.{sum_now}
use Rattle.p416_type_totals.proofs.structs.typed_size.Goals as goal

pub loop-field-preserved : goal.loop-field-preserved
loop-field-preserved c =
    sum_now limit (λ f. looked c.args.headers.now.measure c.args.types.now c.args.structs.now f.kind) (struct_field (top_names c.args.types.now)) c.args.fields.now c.loop-field.field-index c.field-item.result _ _ _ c.loop-field-test.true c.field-item.is c.loop-field.invariant
    (c.size_of_kind-size.ensures ∙ ap (looked c.args.headers.now.measure c.args.types.now c.args.structs.now) c.kind_of_type.ensures) c.capped-so_far.ensures
