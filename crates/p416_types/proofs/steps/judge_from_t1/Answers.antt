use Rattle.std.proofs.Common.{refl}
use Rattle.p416_syntax.specs.declared.rule.ProgramRule.TheVariants.{T1, T2, T3}
use Rattle.p416_syntax.specs.Unknown.{is_misnamed}
use Rattle.p416_syntax.specs.Sizes.{leaves_size}
use Rattle.p416_syntax.specs.Types.{is_mistyped}
use Rattle.p416_expression_uses.specs.First.{use_rule}
use Rattle.p416_types.specs.internal.Steps.{uses_from_t4}
use Rattle.p416_types.proofs.Exactly.{t1, t2, t3}
use Rattle.p416_types.proofs.Groups.{first, second, third, none}
use Rattle.p416_types.proofs.steps.judge_from_t1.Goals as goal

pub returns-then-is_found : goal.returns-then-is_found
returns-then-is_found c s named left =
    first s c.args.found.now (use_rule T1 is_misnamed) (use_rule T2 leaves_size) (use_rule T3 is_mistyped) uses_from_t4 (t1 s named) (t2 s) (t3 s) refl refl refl left
    c.is_found.result _ c.is_found.ensures c.if-is_found.true c.refusal.ensures

pub returns-then-is_found-2 : goal.returns-then-is_found-2
returns-then-is_found-2 c s named left =
    second s c.args.found.now (use_rule T1 is_misnamed) (use_rule T2 leaves_size) (use_rule T3 is_mistyped) uses_from_t4 (t1 s named) (t2 s) (t3 s) refl refl refl left
    c.is_found.result c.is_found-2.result _ c.is_found.ensures c.if-is_found.false c.is_found-2.ensures c.if-is_found-2.true c.refusal-then-is_found-2.ensures

pub returns-then-is_found-3 : goal.returns-then-is_found-3
returns-then-is_found-3 c s named left =
    third s c.args.found.now (use_rule T1 is_misnamed) (use_rule T2 leaves_size) (use_rule T3 is_mistyped) uses_from_t4 (t1 s named) (t2 s) (t3 s) refl refl refl left
    c.is_found.result c.is_found-2.result c.is_found-3.result _ c.is_found.ensures c.if-is_found.false c.is_found-2.ensures c.if-is_found-2.false c.is_found-3.ensures c.if-is_found-3.true c.refusal-then-is_found-3.ensures

pub returns : goal.returns
returns c s named left =
    none s c.args.found.now (use_rule T1 is_misnamed) (use_rule T2 leaves_size) (use_rule T3 is_mistyped) uses_from_t4 (t1 s named) (t2 s) (t3 s) refl refl refl left
    c.is_found.result c.is_found-2.result c.is_found-3.result c.is_found.ensures c.if-is_found.false c.is_found-2.ensures c.if-is_found-2.false c.is_found-3.ensures c.if-is_found-3.false
