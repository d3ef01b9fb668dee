use Rattle.lower_bodies.proofs.Acting.{action_is}
use Rattle.lower_bodies.proofs.actions.action_body.Goals as goal

pub returns : goal.returns
returns c =
    action_is c.args.names.now c.args.table.now c.args.read.now c.args.rule c.args.counter c.args.action _ _ _ c.requires.read c.in_ok-rows.ensures.are
    c.as_slice-found.ensures c.in_ok-list.ensures
