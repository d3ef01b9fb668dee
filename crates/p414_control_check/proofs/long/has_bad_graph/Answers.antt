use Rattle.p414_control_check.proofs.Sized.{cyclic_is}
use Rattle.p414_control_check.proofs.Answering.{bad_by, cycle_there, sizes_there}
use Rattle.p414_control_check.proofs.long.has_bad_graph.Goals as goal

pub returns-in-Some : goal.returns-in-Some
returns-in-Some c =
    bad_by c.args.controls.now c.deref.result.now c.in-Some.sizes.items c.are_too_long.result c.requires.known
    (sizes_there c.args.controls.now _ c.in_ok-sizes.field-0 c.in-Some.sizes c.in_ok-sizes.ensures (cc c.in-Some.is)) c.deref.ensures.value c.are_too_long.ensures

pub returns-in-None : goal.returns-in-None
returns-in-None c = cyclic_is c.args.controls.now (cycle_there c.args.controls.now _ c.in_ok-sizes.field-0 c.in_ok-sizes.ensures (cc c.in-None.is))
