use Rattle.std.proofs.Common.{◌∙◌}
use Rattle.lower_bodies.proofs.Alike.{need_same}
use Rattle.lower_bodies.proofs.SameBodies.{body_same}
use Rattle.lower_expressions.proofs.Turning.{makes_is}
use Rattle.lower_bodies.proofs.bodies.body.Goals as goal

pub returns : goal.returns
returns c ds ps kept =
    makes_is _ _ _ _ _
    (body_same ds c.args.table.now c.in_ok-copies.copies c.args.rule c.args.counter ps c.args.rows.now kept
    (c.in_ok-copies.ensures ∙ need_same ds c.args.table.now c.args.read.now c.requires.read c.args.rule ps c.args.rows.now kept))
    c.in_ok-place.ensures
