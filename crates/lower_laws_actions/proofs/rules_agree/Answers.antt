use Rattle.lower_laws_actions.proofs.RulesAgree as laws
use Rattle.lower_laws_actions.proofs.rules_agree.Goals as goal

pub returns : goal.returns
returns c = laws.rules_agree
