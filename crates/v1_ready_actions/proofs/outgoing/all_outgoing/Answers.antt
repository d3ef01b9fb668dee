use Rattle.std.proofs.Common.{sym, ap, ◌∙◌}
use Rattle.p416_scopes.specs.Seen.{seen_scope}
use Rattle.v1_ready_program.specs.Seen.{seen_seats}
use Rattle.v1_ready_nodes.proofs.Growing.{grows_further}
use Rattle.v1_ready_operands.specs.Callees.{around_of}
use Rattle.v1_ready_operands.specs.Seen.{seen_outgoing}
use Rattle.v1_ready_operands.specs.internal.Passes.{behind_out}
use Rattle.v1_ready_actions.proofs.outgoing.all_outgoing.Goals as goal

pub loop-one-init : goal.loop-one-init
loop-one-init c = record {
  outgoing = ap (behind_out (around_of c.args.callees) (seen_scope c.args.around.scope.now) (seen_seats c.args.around.seats.now) c.args.passed) c.in_ok-none.ensures.outgoing;
  within = c.in_ok-none.ensures.within;
  grows = c.in_ok-none.ensures.grows;
}

pub loop-one-preserved : goal.loop-one-preserved
loop-one-preserved c =
    let b = around_of c.args.callees in
    let s = seen_scope c.args.around.scope.now in
    let seats = seen_seats c.args.around.seats.now in
    record {
      outgoing =
          ap (behind_out b s seats c.pop.new.self) c.in_ok-found.ensures.outgoing
          ∙ (sym (ap (λ xs. behind_out b s seats xs (seen_outgoing c.loop-one.nodes c.loop-one.found)) c.in-Some.ensures) ∙ c.loop-one.invariant.outgoing);
      within = c.in_ok-found.ensures.within;
      grows = grows_further c.args.nodes.now c.loop-one.nodes c.one_outgoing.new.nodes c.loop-one.invariant.grows c.in_ok-found.ensures.grows;
    }
