use Rattle.std.proofs.Common.{arith}
use Rattle.p416_scopes.specs.Seen.{seen_scope}
use Rattle.v1_ready_program.specs.Seen.{seen_seats}
use Rattle.v1_ready_nodes.proofs.Growing.{grows_further}
use Rattle.v1_ready_bodies.specs.Seen.{seen_statement}
use Rattle.v1_ready_bodies.proofs.Turning.{initials_turn}
use Rattle.v1_ready_bodies.proofs.variables.ready_initials.Goals as goal

pub loop-left-preserved : goal.loop-left-preserved
loop-left-preserved g c = record {
  statement =
      initials_turn (g.S.Singles.block c.args.singles.now) (seen_scope c.args.standing.now.scope) (seen_seats c.args.standing.now.seats) c.args.variables.now c.loop-left.left c.index-variables-left.result c.index-variables-left.result (seen_statement c.args.nodes.now c.args.rest) _ _ (omega arith) c.loop-left.invariant.few
      c.index-variables-left.is c.loop-left.invariant.statement c.in_ok-found.ensures.statement;
  within = c.in_ok-found.ensures.within;
  grows = grows_further c.args.nodes.now c.loop-left.nodes c.initial_of.new.nodes c.loop-left.invariant.grows c.in_ok-found.ensures.grows;
  few = omega (arith, c.loop-left.invariant.few);
}
