use Rattle.std.proofs.Common.{ap, ◌∙◌}
use Rattle.v1_core.specs.Signatures.{place_among}
use Rattle.p416_signature.specs.internal.Gathered.{objects_seen, plane_in}
use Rattle.v1_ready_operands.proofs.Naming.{object_is}
use Rattle.v1_ready_operands.proofs.callees.object_called.Goals as goal

pub returns : goal.returns
returns c =
    c.in_ok-number.ensures
    ∙ (ap (place_among c.args.callees.objects.now.numbers)
    (c.plane_in-plane.ensures ∙ ap (plane_in (objects_seen c.args.callees.own_objects.now) (objects_seen c.args.callees.objects.now.top)) c.name_in-name.ensures)
    ∙ object_is c.args.callees c.requires c.args.object.now)
