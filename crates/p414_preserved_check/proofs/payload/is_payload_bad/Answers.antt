use Rattle.p414_preserved_check.proofs.Paying.{payload_by}
use Rattle.p414_preserved_check.proofs.payload.is_payload_bad.Goals as goal

pub returns : goal.returns
returns c = payload_by c.args.names.now c.args.pays.now c.args.fills.now c.requires.pays c.requires.fills _ c.requires.hashed c.stands_badly.result c.stands_badly.ensures
