use Rattle.std.proofs.Common.{[], ◌∷◌}
use Rattle.p414_syntax.specs.declared.rule.ProgramRule.TheVariants.{C23, C24, C25}
use Rattle.p414_body_check.proofs.Orders.{told_first, told_second, told_third, keeps_three}
use Rattle.p414_body_check.proofs.bodies.judge_from_c23.Goals as goal

pub returns-then-branch : goal.returns-then-branch
returns-then-branch c = told_first c.args.names.now C23 (C24 ∷ C25 ∷ []) c.in_ok-breaks_c23.field-0 _ c.in_ok-breaks_c23.ensures c.if-branch.true c.refusal.ensures

pub returns-then-breaks_c24 : goal.returns-then-breaks_c24
returns-then-breaks_c24 c =
    told_second c.args.names.now C23 C24 (C25 ∷ []) c.in_ok-breaks_c23.field-0 c.breaks_c24.result _ c.in_ok-breaks_c23.ensures c.if-branch.false c.breaks_c24.ensures c.if-breaks_c24.true c.refusal-then-breaks_c24.ensures

pub returns-then-branch-2 : goal.returns-then-branch-2
returns-then-branch-2 c =
    told_third c.args.names.now C23 C24 C25 [] c.in_ok-breaks_c23.field-0 c.breaks_c24.result c.in_ok-breaks_c25.field-0 _ c.in_ok-breaks_c23.ensures c.if-branch.false c.breaks_c24.ensures c.if-breaks_c24.false c.in_ok-breaks_c25.ensures c.if-branch-2.true c.refusal-then-branch-2.ensures

pub returns : goal.returns
returns c =
    keeps_three c.args.names.now C23 C24 C25 c.in_ok-breaks_c23.field-0 c.breaks_c24.result c.in_ok-breaks_c25.field-0 c.in_ok-breaks_c23.ensures c.if-branch.false c.breaks_c24.ensures c.if-breaks_c24.false c.in_ok-breaks_c25.ensures c.if-branch-2.false
