use Rattle.std.proofs.Common.{Ok, Err}
use Rattle.deparse_order.specs.declared.fault.OrderFault.TheVariants.{Cycle}
use Rattle.deparse_order.proofs.Stating.{program_answer}
use Rattle.deparse_order.proofs.headers.order.Goals as goal

pub returns-in-Ok-Some-clause-program : goal.returns-in-Ok-Some-clause-program
returns-in-Ok-Some-clause-program c ds is = program_answer ds c.args.graph.now is (Ok c.in-Ok-Some.order) (rw c.in-Ok-Some.field-0-is at c.in-Ok-Some.ensures)

pub returns-in-Ok-None-clause-program : goal.returns-in-Ok-None-clause-program
returns-in-Ok-None-clause-program c ds is = program_answer ds c.args.graph.now is (Err Cycle) (rw c.in-Ok-None.field-0-is at c.in-Ok-None.ensures)
