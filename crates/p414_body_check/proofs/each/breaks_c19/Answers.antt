use Rattle.p414_body_check.proofs.Exactly.{c19_result, acyclic}
use Rattle.p414_body_check.proofs.each.breaks_c19.Goals as goal

pub preserves_initialized-requires : goal.preserves_initialized-requires
preserves_initialized-requires c = acyclic c.args.names.now c.requires.declared

pub returns : goal.returns
returns c = c19_result c.args.names.now c.preserves_initialized.result c.preserves_initialized.ensures
