use Rattle.p414_body_check.proofs.Exactly.{c16_result, known}
use Rattle.p414_body_check.proofs.each.breaks_c16.Goals as goal

pub has_bad_control-requires : goal.has_bad_control-requires
has_bad_control-requires c = known c.args.names.now c.requires.declared

pub returns : goal.returns
returns c = c16_result c.args.names.now c.has_bad_control.result c.has_bad_control.ensures
