use Rattle.p414_syntax.specs.Actions.{HasBadAction}
use Rattle.p414_body_check.proofs.Orders.{exactly_true, exactly_false}
use Rattle.p414_body_check.proofs.Exactly.{c13_written, c13_long, c13_result}
use Rattle.p414_body_check.proofs.each.breaks_c13.Goals as goal

pub returns-then-branch : goal.returns-then-branch
returns-then-branch c = c13_written c.args.names.now c.in_ok-is_written_wrongly.field-0 c.in_ok-is_written_wrongly.ensures c.if-branch.true

pub returns-then-branch-2 : goal.returns-then-branch-2
returns-then-branch-2 c =
    c13_long c.args.names.now c.in_ok-is_written_wrongly.field-0 c.in_ok-is_written_wrongly.ensures c.if-branch.false (exactly_true (HasBadAction c.args.names.now) c.in_ok-has_bad_action.field-0 c.in_ok-has_bad_action.ensures c.if-branch-2.true)

pub returns : goal.returns
returns c =
    c13_result c.args.names.now c.in_ok-is_written_wrongly.field-0 c.in_ok-is_written_wrongly.ensures c.if-branch.false (exactly_false (HasBadAction c.args.names.now) c.in_ok-has_bad_action.field-0 c.in_ok-has_bad_action.ensures c.if-branch-2.false) c.expands_to_wrong_call.result c.expands_to_wrong_call.ensures
