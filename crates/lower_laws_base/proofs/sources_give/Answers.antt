use Rattle.lower_laws_base.proofs.Sources.{gives_source}
use Rattle.lower_laws_base.proofs.sources_give.Goals as goal

pub returns : goal.returns
returns c = gives_source
