use Rattle.std.proofs.Common.{[], ◌∷◌}
use Rattle.p414_syntax.specs.declared.rule.ProgramRule.TheVariants.{C26, C27, C28}
use Rattle.p414_body_check.proofs.Orders.{told_first, told_second, told_third, keeps_three}
use Rattle.p414_body_check.proofs.bodies.judge_from_c26.Goals as goal

pub returns-then-branch : goal.returns-then-branch
returns-then-branch c = told_first c.args.names.now C26 (C27 ∷ C28 ∷ []) c.in_ok-breaks_c26.field-0 _ c.in_ok-breaks_c26.ensures c.if-branch.true c.refusal.ensures

pub returns-then-breaks_c27 : goal.returns-then-breaks_c27
returns-then-breaks_c27 c =
    told_second c.args.names.now C26 C27 (C28 ∷ []) c.in_ok-breaks_c26.field-0 c.breaks_c27.result _ c.in_ok-breaks_c26.ensures c.if-branch.false c.breaks_c27.ensures c.if-breaks_c27.true c.refusal-then-breaks_c27.ensures

pub returns-then-branch-2 : goal.returns-then-branch-2
returns-then-branch-2 c =
    told_third c.args.names.now C26 C27 C28 [] c.in_ok-breaks_c26.field-0 c.breaks_c27.result c.in_ok-breaks_c28.field-0 _ c.in_ok-breaks_c26.ensures c.if-branch.false c.breaks_c27.ensures c.if-breaks_c27.false c.in_ok-breaks_c28.ensures c.if-branch-2.true c.refusal-then-branch-2.ensures

pub returns : goal.returns
returns c =
    keeps_three c.args.names.now C26 C27 C28 c.in_ok-breaks_c26.field-0 c.breaks_c27.result c.in_ok-breaks_c28.field-0 c.in_ok-breaks_c26.ensures c.if-branch.false c.breaks_c27.ensures c.if-breaks_c27.false c.in_ok-breaks_c28.ensures c.if-branch-2.false
