use Rattle.lower_laws_translated.proofs.Whole as laws
use Rattle.lower_laws_translated.proofs.translations_hold.Goals as goal

pub returns : goal.returns
returns c = laws.translations_hold
