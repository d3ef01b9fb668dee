use Rattle.p4x_cmd.proofs.Causes.{carried_is, statuses_is, complete_is, usage_is, fault_is, files_is, line_is}
use Rattle.p4x_cmd.proofs.top.p4x.Goals as goal

pub returns-clause-carried : goal.returns-clause-carried
returns-clause-carried g c = carried_is _ _ _ _ _ _ c.run.ensures

pub returns-clause-statuses : goal.returns-clause-statuses
returns-clause-statuses g c = statuses_is _ _ _ _ _ _ c.run.ensures

pub returns-clause-complete : goal.returns-clause-complete
returns-clause-complete g c = complete_is _ _ _ _ _ _ c.run.ensures

pub returns-clause-usage : goal.returns-clause-usage
returns-clause-usage g c = usage_is _ _ _ _ _ _ c.run.ensures

pub returns-clause-fault : goal.returns-clause-fault
returns-clause-fault g c = fault_is _ _ _ _ _ _ c.run.ensures

pub returns-clause-files : goal.returns-clause-files
returns-clause-files g c = files_is _ _ _ _ _ _ c.run.ensures

pub returns-clause-line : goal.returns-clause-line
returns-clause-line g c = line_is _ _ _ _ _ _ c.run.ensures
