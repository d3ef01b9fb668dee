use Rattle.p416_listed_check.proofs.Entering.{entered_ok, there_ok}
use Rattle.p416_listed_check.proofs.labels.Listings.enter.Goals as goal

pub returns-in-true-clause-listed : goal.returns-in-true-clause-listed
returns-in-true-clause-listed c =
    entered_ok c.add_actions.result c.self.inside.tables c.add.new.self c.self.inside.listed c.add_actions.new.set c.args.table.now c.args.actions.now c.args.self.now c.self.view_is (rw c.in-true.is at c.in_ok-add.ensures) c.add_actions.ensures

pub returns-in-true-clause-there : goal.returns-in-true-clause-there
returns-in-true-clause-there c = there_ok c.add_actions.result c.self.inside.tables c.add.new.self c.args.table.now (rw c.in-true.is at c.in_ok-add.ensures)
