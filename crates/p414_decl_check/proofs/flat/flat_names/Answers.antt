use Rattle.p414_decl_check.proofs.Judging.{answer_first, answer_later, answer_names}
use Rattle.p414_decl_check.proofs.flat.flat_names.Goals as goal

pub returns-in_default : goal.returns-in_default
returns-in_default c = answer_first c.args.decls.now c.in_ok-names.field-0 _ c.in_ok-names.ensures (cc c.in_default.is) c.refusal.ensures

pub returns-in-Some-2 : goal.returns-in-Some-2
returns-in-Some-2 c =
    answer_later c.args.decls.now c.in_ok-names.field-0 c.in-Some.names c.in_ok-rule.field-0 c.in-Some-2.rule _ c.in_ok-names.ensures (cc c.in-Some.is) c.in_ok-rule.ensures (cc c.in-Some-2.is) c.refusal-in-Some-2.ensures

pub returns : goal.returns
returns c =
    answer_names c.args.decls.now c.in_ok-names.field-0 c.in-Some.names c.in_ok-rule.field-0 c.in_ok-names.ensures (cc c.in-Some.is) c.in_ok-rule.ensures (cc c.in-None.is)
