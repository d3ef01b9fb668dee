use Rattle.std.proofs.Common.{[], ◌∷◌}
use Rattle.p416_syntax.specs.declared.rule.ProgramRule.TheVariants.{T7, T8, T9}
use Rattle.p416_syntax.specs.Breaks.{IsBroken}
use Rattle.p416_types.proofs.Leaving.{left_of_t9}
use Rattle.p416_types.proofs.Orders.{exactly_false, told_first, told_second, told_third, keeps_three}
use Rattle.p416_types.proofs.steps.judge_from_t7.Goals as goal

pub breaks_t9-requires-clause-found : goal.breaks_t9-requires-clause-found
breaks_t9-requires-clause-found c = left_of_t9 c.args.syntax.now c.args.found.now c.requires.found (exactly_false (IsBroken c.args.syntax.now T8) c.in_ok-breaks_t8.field-0 c.in_ok-breaks_t8.ensures c.if-branch-2.false)

pub returns-then-branch : goal.returns-then-branch
returns-then-branch c = told_first c.args.syntax.now T7 (T8 ∷ T9 ∷ []) c.in_ok-has_bad_states.field-0 _ c.in_ok-has_bad_states.ensures c.if-branch.true c.refusal.ensures

pub returns-then-branch-2 : goal.returns-then-branch-2
returns-then-branch-2 c =
    told_second c.args.syntax.now T7 T8 (T9 ∷ []) c.in_ok-has_bad_states.field-0 c.in_ok-breaks_t8.field-0 _ c.in_ok-has_bad_states.ensures c.if-branch.false c.in_ok-breaks_t8.ensures c.if-branch-2.true c.refusal-then-branch-2.ensures

pub returns-then-branch-3 : goal.returns-then-branch-3
returns-then-branch-3 c =
    told_third c.args.syntax.now T7 T8 T9 [] c.in_ok-has_bad_states.field-0 c.in_ok-breaks_t8.field-0 c.in_ok-breaks_t9.field-0 _ c.in_ok-has_bad_states.ensures c.if-branch.false c.in_ok-breaks_t8.ensures c.if-branch-2.false c.in_ok-breaks_t9.ensures c.if-branch-3.true c.refusal-then-branch-3.ensures

pub returns : goal.returns
returns c =
    keeps_three c.args.syntax.now T7 T8 T9 c.in_ok-has_bad_states.field-0 c.in_ok-breaks_t8.field-0 c.in_ok-breaks_t9.field-0 c.in_ok-has_bad_states.ensures c.if-branch.false c.in_ok-breaks_t8.ensures c.if-branch-2.false c.in_ok-breaks_t9.ensures c.if-branch-3.false
