use Rattle.std.proofs.Common.{[], ◌∷◌}
use Rattle.p416_syntax.specs.declared.rule.ProgramRule.TheVariants.{T10, T11, T12}
use Rattle.p416_types.proofs.Exactly.{t10_found}
use Rattle.p416_types.proofs.Orders.{told_first, told_second, told_third, keeps_three}
use Rattle.p416_types.proofs.steps.judge_from_t10.Goals as goal

pub returns-then-is_found : goal.returns-then-is_found
returns-then-is_found c = told_first c.args.syntax.now T10 (T11 ∷ T12 ∷ []) c.is_found.result _ (t10_found c.args.syntax.now c.args.found.now c.is_found.result c.requires.left c.is_found.ensures) c.if-is_found.true c.refusal.ensures

pub returns-then-branch : goal.returns-then-branch
returns-then-branch c =
    told_second c.args.syntax.now T10 T11 (T12 ∷ []) c.is_found.result c.in_ok-breaks_t11.field-0 _ (t10_found c.args.syntax.now c.args.found.now c.is_found.result c.requires.left c.is_found.ensures) c.if-is_found.false c.in_ok-breaks_t11.ensures c.if-branch.true c.refusal-then-branch.ensures

pub returns-then-branch-2 : goal.returns-then-branch-2
returns-then-branch-2 c =
    told_third c.args.syntax.now T10 T11 T12 [] c.is_found.result c.in_ok-breaks_t11.field-0 c.in_ok-breaks_t12.field-0 _ (t10_found c.args.syntax.now c.args.found.now c.is_found.result c.requires.left c.is_found.ensures) c.if-is_found.false c.in_ok-breaks_t11.ensures c.if-branch.false
    c.in_ok-breaks_t12.ensures c.if-branch-2.true c.refusal-then-branch-2.ensures

pub returns : goal.returns
returns c =
    keeps_three c.args.syntax.now T10 T11 T12 c.is_found.result c.in_ok-breaks_t11.field-0 c.in_ok-breaks_t12.field-0 (t10_found c.args.syntax.now c.args.found.now c.is_found.result c.requires.left c.is_found.ensures) c.if-is_found.false c.in_ok-breaks_t11.ensures c.if-branch.false
    c.in_ok-breaks_t12.ensures c.if-branch-2.false
