use Rattle.std.proofs.Common.{[], ◌∷◌}
use Rattle.p414_syntax.specs.declared.rule.ProgramRule.TheVariants.{C14, C15, C16}
use Rattle.p414_body_check.proofs.Orders.{told_first, told_second, told_third, keeps_three}
use Rattle.p414_body_check.proofs.bodies.judge_from_c14.Goals as goal

pub returns-then-breaks_c14 : goal.returns-then-breaks_c14
returns-then-breaks_c14 c = told_first c.args.names.now C14 (C15 ∷ C16 ∷ []) c.breaks_c14.result _ c.breaks_c14.ensures c.if-breaks_c14.true c.refusal.ensures

pub returns-then-branch : goal.returns-then-branch
returns-then-branch c =
    told_second c.args.names.now C14 C15 (C16 ∷ []) c.breaks_c14.result c.in_ok-breaks_c15.field-0 _ c.breaks_c14.ensures c.if-breaks_c14.false c.in_ok-breaks_c15.ensures c.if-branch.true c.refusal-then-branch.ensures

pub returns-then-branch-2 : goal.returns-then-branch-2
returns-then-branch-2 c =
    told_third c.args.names.now C14 C15 C16 [] c.breaks_c14.result c.in_ok-breaks_c15.field-0 c.in_ok-breaks_c16.field-0 _ c.breaks_c14.ensures c.if-breaks_c14.false c.in_ok-breaks_c15.ensures c.if-branch.false c.in_ok-breaks_c16.ensures c.if-branch-2.true c.refusal-then-branch-2.ensures

pub returns : goal.returns
returns c =
    keeps_three c.args.names.now C14 C15 C16 c.breaks_c14.result c.in_ok-breaks_c15.field-0 c.in_ok-breaks_c16.field-0 c.breaks_c14.ensures c.if-breaks_c14.false c.in_ok-breaks_c15.ensures c.if-branch.false c.in_ok-breaks_c16.ensures c.if-branch-2.false
