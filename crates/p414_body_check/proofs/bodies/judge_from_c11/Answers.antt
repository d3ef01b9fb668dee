use Rattle.std.proofs.Common.{[], ◌∷◌}
use Rattle.p414_syntax.specs.declared.rule.ProgramRule.TheVariants.{C11, C12, C13}
use Rattle.p414_body_check.proofs.Orders.{told_first, told_second, told_third, keeps_three}
use Rattle.p414_body_check.proofs.bodies.judge_from_c11.Goals as goal

pub returns-then-breaks_c11 : goal.returns-then-breaks_c11
returns-then-breaks_c11 c = told_first c.args.names.now C11 (C12 ∷ C13 ∷ []) c.breaks_c11.result _ c.breaks_c11.ensures c.if-breaks_c11.true c.refusal.ensures

pub returns-then-breaks_c12 : goal.returns-then-breaks_c12
returns-then-breaks_c12 c =
    told_second c.args.names.now C11 C12 (C13 ∷ []) c.breaks_c11.result c.breaks_c12.result _ c.breaks_c11.ensures c.if-breaks_c11.false c.breaks_c12.ensures c.if-breaks_c12.true c.refusal-then-breaks_c12.ensures

pub returns-then-branch : goal.returns-then-branch
returns-then-branch c =
    told_third c.args.names.now C11 C12 C13 [] c.breaks_c11.result c.breaks_c12.result c.in_ok-breaks_c13.field-0 _ c.breaks_c11.ensures c.if-breaks_c11.false c.breaks_c12.ensures c.if-breaks_c12.false c.in_ok-breaks_c13.ensures c.if-branch.true c.refusal-then-branch.ensures

pub returns : goal.returns
returns c =
    keeps_three c.args.names.now C11 C12 C13 c.breaks_c11.result c.breaks_c12.result c.in_ok-breaks_c13.field-0 c.breaks_c11.ensures c.if-breaks_c11.false c.breaks_c12.ensures c.if-breaks_c12.false c.in_ok-breaks_c13.ensures c.if-branch.false
