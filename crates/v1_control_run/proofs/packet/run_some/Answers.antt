use Rattle.std.proofs.Common.{refl, subst}
use Rattle.p4x_bits.specs.BitLists.{IsOctets}
use Rattle.v1_control_run.proofs.Runs.{control_frame, control_runs}
use Rattle.v1_control_run.proofs.Seen.{slice_begins}
use Rattle.v1_control_run.proofs.packet.run_some.Goals as goal

pub returns-clause-frame : goal.returns-clause-frame
returns-clause-frame c =
    control_frame _ c.args.block _ _ c.run.new.frame _ c.run.new.store _ _ _ c.args.spare.now c.begin.new.run c.run.new.run c.requires.runners c.requires.frame
    c.requires.spare c.in_ok-begin.ensures.begins c.in_ok-begin.ensures.waiting c.in_ok-run.ensures.runs

pub returns-clause-runs : goal.returns-clause-runs
returns-clause-runs c =
    control_runs _ c.args.block _ _ c.run.new.frame _ c.run.new.store _ c.args.emitted.now _ c.args.spare.now c.begin.new.run c.run.new.run c.requires.runners
    c.requires.frame c.requires.spare (slice_begins _ _ _ c.args.spare.now.run _ c.as_slice.ensures c.in_ok-begin.ensures.begins) c.in_ok-begin.ensures.waiting
    c.in_ok-run.ensures.runs _ _ (subst IsOctets c.as_slice.ensures c.in_ok-begin.ensures.octets) c.in_ok-end.ensures refl
