use Rattle.v1_parser_laws.proofs.Emptied.{emptied_begins}
use Rattle.v1_parser_laws.proofs.emptied_parts_begin_anew.Goals as goal

pub returns : goal.returns
returns c = emptied_begins
