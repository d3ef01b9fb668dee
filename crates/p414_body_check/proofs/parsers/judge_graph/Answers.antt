use Rattle.p414_body_check.proofs.StateRules.{told_c9, told_c10, keeps_both}
use Rattle.p414_body_check.proofs.parsers.judge_graph.Goals as goal

pub returns-then-branch : goal.returns-then-branch
returns-then-branch c =
    told_c9 c.args.syntax.now.decls c.in_ok-has_idle_cycle.field-0 _ c.in_ok-has_idle_cycle.ensures c.if-branch.true c.refusal.ensures

pub returns-then-branch-2 : goal.returns-then-branch-2
returns-then-branch-2 c =
    told_c10 c.args.syntax.now.decls c.in_ok-has_idle_cycle.field-0 c.in_ok-has_no_order.field-0 _ c.in_ok-has_idle_cycle.ensures c.if-branch.false c.in_ok-has_no_order.ensures c.if-branch-2.true c.refusal-then-branch-2.ensures

pub returns : goal.returns
returns c =
    keeps_both c.args.syntax.now.decls c.in_ok-has_idle_cycle.field-0 c.in_ok-has_no_order.field-0 c.in_ok-has_idle_cycle.ensures c.if-branch.false c.in_ok-has_no_order.ensures c.if-branch-2.false
