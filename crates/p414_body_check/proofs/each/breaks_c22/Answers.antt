use Rattle.p414_body_check.proofs.Exactly.{c22_result, no_self_calling_action}
use Rattle.p414_body_check.proofs.each.breaks_c22.Goals as goal

pub has_misplaced_request-requires : goal.has_misplaced_request-requires
has_misplaced_request-requires c = no_self_calling_action c.args.names.now c.requires.actions

pub returns : goal.returns
returns c = c22_result c.args.names.now c.has_misplaced_request.result c.has_misplaced_request.ensures
