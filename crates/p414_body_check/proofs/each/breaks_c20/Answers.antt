use Rattle.p414_body_check.proofs.Exactly.{c20_result, acyclic}
use Rattle.p414_body_check.proofs.each.breaks_c20.Goals as goal

pub has_bad_payload-requires : goal.has_bad_payload-requires
has_bad_payload-requires c = acyclic c.args.names.now c.requires.declared

pub returns : goal.returns
returns c = c20_result c.args.names.now c.has_bad_payload.result c.has_bad_payload.ensures
