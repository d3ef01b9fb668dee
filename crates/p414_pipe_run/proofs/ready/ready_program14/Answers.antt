use Rattle.p414_pipe_run.proofs.Steps.{expands_there, made_of_parts}
use Rattle.p414_pipe_run.proofs.ready.ready_program14.Goals as goal

pub invariant_of-result : goal.invariant_of-result
invariant_of-result c =
    made_of_parts c.in_ok-pipelines.pipelines c.args.program.now.decls c.args.rule c.args.entries.now c.in_ok-order.order c.in_ok-parser.parser c.in_ok-layout.layout c.in_ok-lists.lists c.in_ok-fields.fields c.in_ok-calculations.calculations
    c.in_ok-pipelines.ensures c.syntax-accepted.ensures.accepted c.in_ok-order.ensures c.in_ok-parser.ensures.means c.in_ok-parser.ensures.fits c.in_ok-layout.ensures.is c.in_ok-layout.ensures.whole c.in_ok-lists.ensures.ready c.in_ok-fields.ensures.means c.in_ok-calculations.ensures

pub returns-clause-expanded : goal.returns-clause-expanded
returns-clause-expanded c =
    expands_there c.args.program.now.decls c.args.rule c.args.entries.now c.in_ok-pipelines.pipelines c.in_ok-order.order c.in_ok-pipelines.ensures c.syntax-accepted.ensures.accepted c.in_ok-order.ensures
