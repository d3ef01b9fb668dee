use Rattle.deparse_order.specs.Programs.{IsProgramGraph}
use Rattle.p414_passes.proofs.Rules.{has_start, has_order}
use Rattle.p414_passes.proofs.order.order_of.Goals as goal

pub order-requires-clause-start : goal.order-requires-clause-start
order-requires-clause-start c = (c.in_ok-states.ensures.start (has_start c.args.syntax.now c.requires)).within

pub returns-in-Ok : goal.returns-in-Ok
returns-in-Ok c =
    let is : IsProgramGraph c.args.syntax.now.decls c.in_ok-states.states = record {
      graph = c.in_ok-states.ensures.graph;
      start_is = (c.in_ok-states.ensures.start (has_start c.args.syntax.now c.requires)).named;
    } in
    c.in-Ok.ensures.program c.args.syntax.now.decls is

pub unreachable-requires : goal.unreachable-requires
unreachable-requires c =
    let is : IsProgramGraph c.args.syntax.now.decls c.in_ok-states.states = record {
      graph = c.in_ok-states.ensures.graph;
      start_is = (c.in_ok-states.ensures.start (has_start c.args.syntax.now c.requires)).named;
    } in
    has_order c.args.syntax.now c.requires (rw c.in-Err-Cycle.field-0-is at (c.in-Err-Cycle.ensures.program c.args.syntax.now.decls is))
