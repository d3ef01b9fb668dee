use Rattle.std.proofs.Common.{Some, ◌∷◌}
use Rattle.std.proofs.lemmas.Result.{on_ok_weaker}
use Rattle.v1_ready_blocks.specs.Statements.{nothing}
use Rattle.v1_ready_bodies.proofs.Keeping.{put_seen, put_within}
use Rattle.v1_ready_bodies.proofs.joining.make_nothing.Goals as goal

pub returns-clause-made : goal.returns-clause-made
returns-clause-made c =
    on_ok_weaker c.push.result
    (λ so. put_seen c.args.nodes.now c.ready_nothing.new.nodes c.in_ok-nothing.ensures.grows c.in_ok-nothing.nothing c.args.made.now c.push.new.self (Some nothing) c.requires.made c.in_ok-nothing.ensures.statement so)
    c.push.ensures

pub returns-clause-within : goal.returns-clause-within
returns-clause-within c =
    on_ok_weaker c.push.result
    (λ so. put_within c.args.nodes.now c.ready_nothing.new.nodes c.in_ok-nothing.ensures.grows c.in_ok-nothing.nothing c.args.made.now c.push.new.self c.requires.made c.in_ok-nothing.ensures.within so)
    c.push.ensures
