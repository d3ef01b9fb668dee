use Rattle.std.proofs.Common.{[], ◌∷◌}
use Rattle.p414_syntax.specs.declared.rule.ProgramRule.TheVariants.{C20, C21, C22}
use Rattle.p414_body_check.proofs.Orders.{told_first, told_second, told_third, keeps_three}
use Rattle.p414_body_check.proofs.bodies.judge_from_c20.Goals as goal

pub returns-then-branch : goal.returns-then-branch
returns-then-branch c = told_first c.args.names.now C20 (C21 ∷ C22 ∷ []) c.in_ok-breaks_c20.field-0 _ c.in_ok-breaks_c20.ensures c.if-branch.true c.refusal.ensures

pub returns-then-branch-2 : goal.returns-then-branch-2
returns-then-branch-2 c =
    told_second c.args.names.now C20 C21 (C22 ∷ []) c.in_ok-breaks_c20.field-0 c.in_ok-breaks_c21.field-0 _ c.in_ok-breaks_c20.ensures c.if-branch.false c.in_ok-breaks_c21.ensures c.if-branch-2.true c.refusal-then-branch-2.ensures

pub returns-then-branch-3 : goal.returns-then-branch-3
returns-then-branch-3 c =
    told_third c.args.names.now C20 C21 C22 [] c.in_ok-breaks_c20.field-0 c.in_ok-breaks_c21.field-0 c.in_ok-breaks_c22.field-0 _ c.in_ok-breaks_c20.ensures c.if-branch.false c.in_ok-breaks_c21.ensures c.if-branch-2.false c.in_ok-breaks_c22.ensures c.if-branch-3.true c.refusal-then-branch-3.ensures

pub returns : goal.returns
returns c =
    keeps_three c.args.names.now C20 C21 C22 c.in_ok-breaks_c20.field-0 c.in_ok-breaks_c21.field-0 c.in_ok-breaks_c22.field-0 c.in_ok-breaks_c20.ensures c.if-branch.false c.in_ok-breaks_c21.ensures c.if-branch-2.false c.in_ok-breaks_c22.ensures c.if-branch-3.false
