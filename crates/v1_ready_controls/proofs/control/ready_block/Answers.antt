use Rattle.std.proofs.Common.{ap}
use Rattle.v1_ready_nodes.specs.Held.{Held}
use Rattle.v1_ready_controls.proofs.Standing.{block_over, can_apply}
use Rattle.v1_ready_controls.proofs.control.ready_block.Goals as goal

pub returns-clause-applies : goal.returns-clause-applies
returns-clause-applies c = λ held same parts. can_apply c.args.nodes c.args.parts _ (ap (λ (h : Held). block_over h c.args.parts) c.nodes.view_is) held same parts
