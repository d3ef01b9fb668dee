use Rattle.std.proofs.lemmas.Result.{on_ok_weaker}
use Rattle.v1_ready_bodies.proofs.Keeping.{put_seen, put_within}
use Rattle.v1_ready_bodies.proofs.Steps.{state_by}
use Rattle.v1_ready_bodies.proofs.joining.make_single.Goals as goal

pub returns-clause-state : goal.returns-clause-state
returns-clause-state g c =
    on_ok_weaker c.push.result
    (λ so ds. state_by _ _ _ _ _ _ _ _ c.in_ok-found.ensures.scope c.in_ok-found.ensures.seats c.in_ok-found.ensures.number
    (put_seen c.args.nodes.now c.single.new.nodes c.in_ok-found.ensures.grows c.in_ok-found.found c.args.made.now c.push.new.self _ c.requires.made c.in_ok-found.ensures.statement so))
    c.push.ensures

pub returns-clause-within : goal.returns-clause-within
returns-clause-within g c =
    on_ok_weaker c.push.result
    (λ so. put_within c.args.nodes.now c.single.new.nodes c.in_ok-found.ensures.grows c.in_ok-found.found c.args.made.now c.push.new.self c.requires.made c.in_ok-found.ensures.within so)
    c.push.ensures
