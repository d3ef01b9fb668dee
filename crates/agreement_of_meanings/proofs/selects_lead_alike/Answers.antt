use Rattle.agreement_of_meanings.proofs.Selected.{select_leads}
use Rattle.agreement_of_meanings.proofs.selects_lead_alike.Goals as goal

pub returns : goal.returns
returns c = select_leads
