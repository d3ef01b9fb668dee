use Rattle.p414_decl_check.proofs.Judging.{answer_lists, answer_whole}
use Rattle.p414_decl_check.proofs.declarations.with_lists.Goals as goal

pub returns-then-branch : goal.returns-then-branch
returns-then-branch c =
    answer_lists c.args.names c.in_ok-has_bad_list.field-0 c.refusal.result c.requires c.in_ok-has_bad_list.ensures c.if-branch.true c.refusal.ensures

pub returns : goal.returns
returns c = answer_whole c.args.names c.in_ok-has_bad_list.field-0 c.requires c.in_ok-has_bad_list.ensures c.if-branch.false
