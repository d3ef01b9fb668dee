use Rattle.lower_laws_declared.proofs.Parser as laws
use Rattle.lower_laws_declared.proofs.parsers_fit.Goals as goal

pub returns : goal.returns
returns c = laws.parser_fits
