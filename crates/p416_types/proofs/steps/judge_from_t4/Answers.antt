use Rattle.std.proofs.Common.{refl}
use Rattle.p416_syntax.specs.declared.rule.ProgramRule.TheVariants.{T4, T5, T6}
use Rattle.p416_syntax.specs.Literals.{overflows}
use Rattle.p416_syntax.specs.Writes.{writes_constant}
use Rattle.p416_syntax.specs.Arguments.{is_miscounted}
use Rattle.p416_expression_uses.specs.First.{use_rule}
use Rattle.p416_types.specs.internal.Steps.{uses_from_t7}
use Rattle.p416_types.proofs.Exactly.{t4, t5, t6}
use Rattle.p416_types.proofs.Groups.{first, second, third, none}
use Rattle.p416_types.proofs.steps.judge_from_t4.Goals as goal

pub returns-then-is_found : goal.returns-then-is_found
returns-then-is_found c s left =
    first s c.args.found.now (use_rule T4 overflows) (use_rule T5 writes_constant) (use_rule T6 is_miscounted) uses_from_t7 (t4 s) (t5 s) (t6 s) refl refl refl left
    c.is_found.result _ c.is_found.ensures c.if-is_found.true c.refusal.ensures

pub returns-then-is_found-2 : goal.returns-then-is_found-2
returns-then-is_found-2 c s left =
    second s c.args.found.now (use_rule T4 overflows) (use_rule T5 writes_constant) (use_rule T6 is_miscounted) uses_from_t7 (t4 s) (t5 s) (t6 s) refl refl refl left
    c.is_found.result c.is_found-2.result _ c.is_found.ensures c.if-is_found.false c.is_found-2.ensures c.if-is_found-2.true c.refusal-then-is_found-2.ensures

pub returns-then-is_found-3 : goal.returns-then-is_found-3
returns-then-is_found-3 c s left =
    third s c.args.found.now (use_rule T4 overflows) (use_rule T5 writes_constant) (use_rule T6 is_miscounted) uses_from_t7 (t4 s) (t5 s) (t6 s) refl refl refl left
    c.is_found.result c.is_found-2.result c.is_found-3.result _ c.is_found.ensures c.if-is_found.false c.is_found-2.ensures c.if-is_found-2.false c.is_found-3.ensures c.if-is_found-3.true c.refusal-then-is_found-3.ensures

pub returns : goal.returns
returns c s left =
    none s c.args.found.now (use_rule T4 overflows) (use_rule T5 writes_constant) (use_rule T6 is_miscounted) uses_from_t7 (t4 s) (t5 s) (t6 s) refl refl refl left
    c.is_found.result c.is_found-2.result c.is_found-3.result c.is_found.ensures c.if-is_found.false c.is_found-2.ensures c.if-is_found-2.false c.is_found-3.ensures c.if-is_found-3.false
