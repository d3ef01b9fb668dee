use Rattle.lower_laws_reading.proofs.Tokens as laws
use Rattle.lower_laws_reading.proofs.texts_are_brief.Goals as goal

pub returns : goal.returns
returns c = laws.texts_are_brief
