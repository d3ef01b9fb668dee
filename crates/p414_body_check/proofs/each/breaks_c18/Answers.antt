use Rattle.p414_body_check.proofs.Exactly.{c18_result, acyclic}
use Rattle.p414_body_check.proofs.each.breaks_c18.Goals as goal

pub has_bad_preserved_list-requires : goal.has_bad_preserved_list-requires
has_bad_preserved_list-requires c = acyclic c.args.names.now c.requires.declared

pub returns : goal.returns
returns c = c18_result c.args.names.now c.has_bad_preserved_list.result c.has_bad_preserved_list.ensures
