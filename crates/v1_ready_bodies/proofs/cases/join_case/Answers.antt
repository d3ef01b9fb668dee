use Rattle.std.proofs.Common.{ap, ◌∙◌}
use Rattle.v1_ready_bodies.specs.internal.Steps.{number_of}
use Rattle.v1_ready_bodies.proofs.Keeping.{all_wider, label_put}
use Rattle.v1_ready_bodies.proofs.cases.join_case.Goals as goal

pub returns-in_ok-joined-in-Action-clause-joined : goal.returns-in_ok-joined-in-Action-clause-joined
returns-in_ok-joined-in-Action-clause-joined g c =
    let b = g.S.Singles.block c.args.singles.now in
    let old = c.args.nodes.now in
    rw (c.in-Action.is)
    (label_put old c.put_labelled.new.nodes c.in_ok-joined-in-Action.ensures.grows c.args.made.now c.take_made-body.new.made c.action.result (number_of b c.in-Action.name) c.take_made-body.result c.args.rest c.in_ok-joined-in-Action.joined
    (c.take_made-body.ensures.others old c.requires.made) (c.take_made-body.ensures.first old) (c.take_made-body.ensures.rest old) (c.action.ensures ∙ ap (number_of b) c.as_slice.ensures) c.in_ok-joined-in-Action.ensures.statement)

pub returns-in_ok-joined-in-Action-clause-within : goal.returns-in_ok-joined-in-Action-clause-within
returns-in_ok-joined-in-Action-clause-within g c =
    all_wider c.args.nodes.now c.put_labelled.new.nodes c.in_ok-joined-in-Action.ensures.grows c.take_made-body.new.made (c.take_made-body.ensures.others c.args.nodes.now c.requires.made)
