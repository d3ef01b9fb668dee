use Rattle.std.proofs.Common.{sym, ap, ◌∙◌}
use Rattle.v1_ready_nodes.proofs.Growing.{grows_further}
use Rattle.v1_ready_bodies.specs.internal.Steps.{state_of, finish}
use Rattle.v1_ready_bodies.proofs.Keeping.{stays_on}
use Rattle.v1_ready_bodies.proofs.bodies.take_all.Goals as goal

pub loop-next-preserved : goal.loop-next-preserved
loop-next-preserved g c = record {
  finish =
      c.in_ok-take.ensures.finish
      ∙ (ap (λ left. finish (g.S.Singles.block c.args.singles.now) c.loop-next.standing.scope.top.now left (state_of c.loop-next.nodes c.loop-next.standing c.loop-next.made)) (sym c.in-Some.ensures)
      ∙ c.loop-next.invariant.finish);
  within = c.in_ok-take.ensures.within;
  grows = grows_further c.args.nodes.now c.loop-next.nodes c.take.new.nodes c.loop-next.invariant.grows c.in_ok-take.ensures.grows;
  stays = stays_on c.args.standing.now c.loop-next.standing c.take.new.standing c.loop-next.invariant.stays c.in_ok-take.ensures.stays;
}
