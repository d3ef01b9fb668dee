use Rattle.std.proofs.Common.{subst}
use Rattle.p4x_bits.specs.BitLists.{IsOctets}
use Rattle.v1_control_run.proofs.Runs.{nothing_runs}
use Rattle.v1_control_run.proofs.packet.run_control.Goals as goal

pub returns-then-is_empty-clause-runs : goal.returns-then-is_empty-clause-runs
returns-then-is_empty-clause-runs c =
    nothing_runs _ c.args.block _ c.block.result _ _ _ _ _ c.args.spare.now c.requires.runners c.requires.frame c.requires.spare c.block.ensures (c.is_empty.ensures c.if-is_empty.true) c.is_whole.ensures
    (subst IsOctets c.as_slice.ensures c.are_octets.ensures)
