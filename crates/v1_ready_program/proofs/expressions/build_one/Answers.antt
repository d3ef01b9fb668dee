use Rattle.std.proofs.Common.{◌∷◌, length, sym, ap, subst, ◌∙◌}
use Rattle.v1_core.specs.Kept.{trees}
use Rattle.v1_ready_program.specs.internal.Coded.{seen_plan, seen_values, AreValuesIn}
use Rattle.v1_ready_program.specs.internal.Passes.{parts_in, behind_parts, made}
use Rattle.v1_ready_program.proofs.Valuing.{values_kept, values_wider}
use Rattle.v1_ready_program.proofs.expressions.build_one.Goals as goal

pub returns-clause-values : goal.returns-clause-values
returns-clause-values c =
    let old = trees c.args.expressions.now in
    let new = trees c.make.new.expressions in
    let mid = c.take_parts-parts.new.values in
    let before = seen_values old c.args.values.now in
    let within = (c.take_parts-parts.ensures.within (length old) c.requires).1 in
    ap (seen_values new) c.in_ok-push.ensures
    ∙ (ap (λ v. v ∷ seen_values new mid)
    (c.in_ok-value.ensures.value
    ∙ ap (made (seen_plan c.args.plan)) (c.take_parts-parts.ensures.parts old ∙ ap (λ e. parts_in e before) (sym c.head.ensures)))
    ∙ ap (λ vs. made (seen_plan c.args.plan) (parts_in c.args.view.now before) ∷ vs)
    (values_kept old new c.in_ok-value.ensures.keeps mid within
    ∙ (c.take_parts-parts.ensures.rest old ∙ ap (λ e. behind_parts e before) (sym c.head.ensures))))

pub returns-clause-within : goal.returns-clause-within
returns-clause-within c =
    let old = trees c.args.expressions.now in
    let new = trees c.make.new.expressions in
    let within = c.take_parts-parts.ensures.within (length old) c.requires in
    subst (AreValuesIn (length new)) (sym c.in_ok-push.ensures)
    (c.in_ok-value.ensures.within within.0, values_wider old new c.in_ok-value.ensures.keeps c.take_parts-parts.new.values within.1)
