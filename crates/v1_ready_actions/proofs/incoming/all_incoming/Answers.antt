use Rattle.std.proofs.Common.{sym, ap, ◌∙◌}
use Rattle.p416_scopes.specs.Seen.{seen_scope}
use Rattle.v1_ready_program.specs.Seen.{seen_seats}
use Rattle.v1_ready_nodes.proofs.Growing.{grows_further}
use Rattle.v1_ready_operands.specs.Callees.{around_of}
use Rattle.v1_ready_operands.specs.Seen.{seen_incoming}
use Rattle.v1_ready_operands.specs.internal.Passes.{behind_in}
use Rattle.v1_ready_actions.proofs.incoming.all_incoming.Goals as goal

pub loop-one-init : goal.loop-one-init
loop-one-init c = record {
  incoming = ap (behind_in (around_of c.args.callees) (seen_scope c.args.around.scope.now) (seen_seats c.args.around.seats.now) c.args.passed) c.in_ok-none.ensures.incoming;
  within = c.in_ok-none.ensures.within;
  grows = c.in_ok-none.ensures.grows;
}

pub loop-one-preserved : goal.loop-one-preserved
loop-one-preserved c =
    let b = around_of c.args.callees in
    let s = seen_scope c.args.around.scope.now in
    let seats = seen_seats c.args.around.seats.now in
    record {
      incoming =
          ap (behind_in b s seats c.pop.new.self) c.in_ok-found.ensures.incoming
          ∙ (sym (ap (λ xs. behind_in b s seats xs (seen_incoming c.loop-one.nodes c.loop-one.found)) c.in-Some.ensures) ∙ c.loop-one.invariant.incoming);
      within = c.in_ok-found.ensures.within;
      grows = grows_further c.args.nodes.now c.loop-one.nodes c.one_incoming.new.nodes c.loop-one.invariant.grows c.in_ok-found.ensures.grows;
    }
