use Rattle.lower_decls.proofs.Lowering.{are_lowered}
use Rattle.lower_decls.proofs.lowered.lowered.Goals as goal

pub returns : goal.returns
returns c =
    are_lowered c.args.names.now c.in_ok-found.found c.in_ok-decls.decls c.in_ok-copies.copies c.in_ok-marks.marks
    c.in_ok-found.ensures c.in_ok-decls.ensures c.in_ok-copies.ensures c.in_ok-marks.ensures
