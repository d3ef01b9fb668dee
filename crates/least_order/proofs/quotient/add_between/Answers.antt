use Rattle.least_order.proofs.Adding.{is_between}
use Rattle.least_order.proofs.quotient.add_between.Goals as goal

pub returns-else-from-to-clause-edges : goal.returns-else-from-to-clause-edges
returns-else-from-to-clause-edges c = is_between c.add.result c.args.edges.now c.add.new.self c.args.from c.args.to c.requires c.if-from-to.false c.add.ensures
